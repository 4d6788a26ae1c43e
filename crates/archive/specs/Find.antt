-- Finding a job (01, Reasons for sending work back): "finding adds 18 and 19", after the whole check of keys and file; and its sealed body
-- as a part of the file.
-- Assumes nothing.
use Rattle.std.specs.Prelude.{◌≡◌, List, ◌++◌, ℕ, ◌<◌}
use Rattle.std.specs.Borrow.{Bor}
use Rattle.refusals.specs.Cases.{Case, first_of}
use Rattle.refusals.specs.Answers.{Answer, refused, gives, answer, part_for}
use Rattle.octets.specs.Parts.{lies_at}
use Rattle.header.specs.Fields.{count_of, directory_of}
use Rattle.directory.specs.Entries.{entry_at, number_of}
use Rattle.directory.specs.Search.{index_of}
use Rattle.bodies.specs.Bodies.{number_cases, body_start, body_at}
use Rattle.admission.specs.Check.{check_cases}

-- the cases of finding
unfoldable pub find_cases : List ℕ → List ℕ → List ℕ → List ℕ → List Case
find_cases key tag_key file number = check_cases key tag_key file ++ number_cases file number

-- what finding answers: the index in the directory, from 0
abbrev pub find_of : List ℕ → List ℕ → List ℕ → List ℕ → Answer
find_of key tag_key file number = answer (first_of (find_cases key tag_key file number)) (index_of (directory_of file) number)

-- the contract of finding: its answer, and what the answer tells, an index that this entry bears the number, and 19 that no entry does
pub record Finds (key tag_key file number : List ℕ) (a : Answer) : Type 0 where
  pub answered : a ≡ find_of key tag_key file number
  pub inside : (i : ℕ) → a ≡ gives i → i < count_of file
  pub bearer : (i : ℕ) → a ≡ gives i → number_of (entry_at (directory_of file) i) ≡ number
  pub nowhere : a ≡ refused 19 → (i : ℕ) → i < count_of file → number_of (entry_at (directory_of file) i) ≡ number → ⊥

-- the sealed body that is handed back
abbrev pub body_given : List ℕ → List ℕ → List ℕ → List ℕ → List ℕ
body_given key tag_key file number = part_for (find_of key tag_key file number) (body_at file)

-- the contract of handing back the sealed body: its bytes, and its place in the file. On a refusal the part has no bytes, and its place is
-- left to the program
pub record GivesBody (key tag_key : List ℕ) (file : Bor (List ℕ)) (number : List ℕ) (r : Bor (List ℕ)) : Type 0 where
  pub bytes : r.now ≡ body_given key tag_key file.now number
  pub place : (i : ℕ) → find_of key tag_key file.now number ≡ gives i → lies_at file (body_start file.now i) r
