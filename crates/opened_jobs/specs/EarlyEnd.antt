-- The early end of the search changes no answer on an archive (02, b: "All answers on archives are unchanged"). What finding, handing back
-- the body and opening come to over the full search, and the statement that they come to the same; the theorem is `unchanged_archives` of
-- proofs/EarlyEnd. Checking, the directory and the listing do not search.
-- The definitions are over any order of job numbers in case 14, so that specs/Spans can use them with the order of before.
-- Assumes nothing.
use Rattle.std.specs.Prelude.{◌≡◌, not, List, ◌∷◌, ◌++◌, ℕ, length}
use Rattle.refusals.specs.Cases.{Case, when, first_of}
use Rattle.refusals.specs.Answers.{Answer, answer, part_for, written_for}
use Rattle.circuit.specs.declared.Schedule.{Schedule}
use Rattle.expansion.specs.KeySchedule.{schedule_of}
use Rattle.header.specs.Fields.{archive_number, directory_of}
use Rattle.jobnumber.specs.Number.{is_job_number, order_of}
use Rattle.directory.specs.EarlyEnd.{full_index_of, full_search_cases}
use Rattle.bodies.specs.Bodies.{body_at}
use Rattle.admission.specs.Check.{check_cases_by}
use Rattle.archive.specs.Find.{find_of, body_given}
use Rattle.opening.specs.Open.{under_keystream, job_size, range_of, plain_range, room_cases, range_cases, open_of}

-- finding: after the whole check 18, then 19 where no entry bears the number
unfoldable pub full_find_cases : (List ℕ → ℕ) → List ℕ → List ℕ → List ℕ → List ℕ → List Case
full_find_cases order key tag_key file number =
    check_cases_by order key tag_key file ++ (when (not (is_job_number number)) 18 ∷ full_search_cases (directory_of file) number)

abbrev pub full_find_of : (List ℕ → ℕ) → List ℕ → List ℕ → List ℕ → List ℕ → Answer
full_find_of order key tag_key file number =
    answer (first_of (full_find_cases order key tag_key file number)) (full_index_of (directory_of file) number)

-- the body: handed back, and the one that is opened
abbrev pub full_body_given : (List ℕ → ℕ) → List ℕ → List ℕ → List ℕ → List ℕ → List ℕ
full_body_given order key tag_key file number = part_for (full_find_of order key tag_key file number) (body_at file)

abbrev pub full_body_of : List ℕ → List ℕ → List ℕ
full_body_of file number = body_at file (full_index_of (directory_of file) number)

-- opening a whole job, as before request f: how many plain bytes there are, and which
unfoldable pub full_open_cases : (List ℕ → ℕ) → List ℕ → List ℕ → List ℕ → List ℕ → ℕ → List Case
full_open_cases order key tag_key file number room =
    full_find_cases order key tag_key file number ++ room_cases (length (full_body_of file number)) room

abbrev pub full_open_of : (List ℕ → ℕ) → List ℕ → List ℕ → List ℕ → List ℕ → ℕ → Answer
full_open_of order key tag_key file number room =
    answer (first_of (full_open_cases order key tag_key file number room)) (length (full_body_of file number))

abbrev pub full_plain_of : Schedule → List ℕ → List ℕ → List ℕ
full_plain_of s file number = under_keystream s (archive_number file) number (full_body_of file number)

-- opening a range of it
unfoldable pub full_range_cases : (List ℕ → ℕ) → List ℕ → List ℕ → List ℕ → List ℕ → ℕ → ℕ → ℕ → List Case
full_range_cases order key tag_key file number first count room =
    full_find_cases order key tag_key file number ++ range_cases (length (full_body_of file number)) first count room

abbrev pub full_range_of : (List ℕ → ℕ) → List ℕ → List ℕ → List ℕ → List ℕ → ℕ → ℕ → ℕ → Answer
full_range_of order key tag_key file number first count room =
    answer (first_of (full_range_cases order key tag_key file number first count room)) count

-- the calls come to what they do over the full search, with case 14 by an order: finding; the body that is handed back; opening a whole
-- job, and a range of it, into a buffer that held `before`, and what stands there afterwards
pub record AsFull (order : List ℕ → ℕ) (key tag_key file number before : List ℕ) : Type 0 where
  pub finding : find_of key tag_key file number ≡ full_find_of order key tag_key file number
  pub body : body_given key tag_key file number ≡ full_body_given order key tag_key file number
  pub opening : open_of key tag_key file number 0 (job_size file number) (length before)
      ≡ full_open_of order key tag_key file number (length before)
  pub bytes :
      written_for (open_of key tag_key file number 0 (job_size file number) (length before))
      (plain_range (schedule_of key) file number 0 (job_size file number)) before
      ≡ written_for (full_open_of order key tag_key file number (length before)) (full_plain_of (schedule_of key) file number) before
  pub ranging : (first count : ℕ)
      → open_of key tag_key file number first count (length before)
      ≡ full_range_of order key tag_key file number first count (length before)
  pub range_bytes : (first count : ℕ)
      → written_for (open_of key tag_key file number first count (length before)) (plain_range (schedule_of key) file number first count)
      before
      ≡ written_for (full_range_of order key tag_key file number first count (length before))
      (range_of first count (full_plain_of (schedule_of key) file number)) before

abbrev pub UnchangedArchives : Type 0
UnchangedArchives = (key tag_key file number before : List ℕ) → AsFull order_of key tag_key file number before
