-- Checking an archive (01, Reasons for sending work back): "checking an archive 1 and 5 to 17", with the cases of 02, d (admission,
-- specs/Check), and its directory as a part of the file.
-- Assumes nothing.
use Rattle.std.specs.Prelude.{◌≡◌, List, ℕ}
use Rattle.std.specs.Borrow.{Bor}
use Rattle.refusals.specs.Cases.{first_of}
use Rattle.refusals.specs.Answers.{Answer, gives, answer, part_for}
use Rattle.octets.specs.Parts.{lies_at}
use Rattle.header.specs.Fields.{count_of, directory_of}
use Rattle.admission.specs.Check.{check_cases}

-- what checking answers: the job count
abbrev pub check_of : List ℕ → List ℕ → List ℕ → Answer
check_of key tag_key file = answer (first_of (check_cases key tag_key file)) (count_of file)

-- the directory that is handed back
abbrev pub directory_given : List ℕ → List ℕ → List ℕ → List ℕ
directory_given key tag_key file = part_for (check_of key tag_key file) (λ (n : ℕ). directory_of file)

-- the contract of handing back the directory: its bytes, and its place, from byte 20 of the file. On a refusal the part has no bytes, and
-- its place is left to the program
pub record GivesDirectory (key tag_key : List ℕ) (file r : Bor (List ℕ)) : Type 0 where
  pub bytes : r.now ≡ directory_given key tag_key file.now
  pub place : (n : ℕ) → check_of key tag_key file.now ≡ gives n → lies_at file 20 r
