-- The jobs of a file by its directory (01, The dryer archive, and Reasons for sending work back, 18 and 19), of any bytes: what looking a
-- number up comes to, and where the sealed body of an entry lies.
-- Assumes nothing.
use Rattle.std.specs.Prelude.{◌≡◌, not, List, ◌∷◌, ℕ, ◌≤◌, length, take, drop}
use Rattle.std.specs.Borrow.{Bor}
use Rattle.refusals.specs.Cases.{Case, when, first_of}
use Rattle.refusals.specs.Answers.{Answer, answer}
use Rattle.octets.specs.Parts.{lies_at}
use Rattle.header.specs.Fields.{directory_of}
use Rattle.jobnumber.specs.Number.{is_job_number}
use Rattle.directory.specs.Entries.{entry_at, start_of, size_of}
use Rattle.directory.specs.Search.{index_of, search_cases}

-- the cases of the job number: it is not exactly eight bytes, all digits; the search comes to no entry, which in a file that has passed its
-- checks says that none bears it (`Finds` of archive)
unfoldable pub number_cases : List ℕ → List ℕ → List Case
number_cases file number = when (not (is_job_number number)) 18 ∷ search_cases (directory_of file) number

-- what looking a job number up answers: the index in the directory, from 0
abbrev pub lookup_of : List ℕ → List ℕ → Answer
lookup_of file number = answer (first_of (number_cases file number)) (index_of (directory_of file) number)

-- where the sealed body of entry i starts, and its bytes
abbrev pub body_start : List ℕ → ℕ → ℕ
body_start file i = start_of (entry_at (directory_of file) i)

unfoldable pub body_at : List ℕ → ℕ → List ℕ
body_at file i = take (size_of (entry_at (directory_of file) i)) (drop (body_start file i) file)

-- the contract of handing back the sealed body of entry i of any file, as far as the file reaches, with its place. Where it starts past the
-- file's end, the part is empty and its place is left to the program
pub record BodyPart (file : Bor (List ℕ)) (i : ℕ) (r : Bor (List ℕ)) : Type 0 where
  pub bytes : r.now ≡ body_at file.now i
  pub place : body_start file.now i ≤ length file.now → lies_at file (body_start file.now i) r
