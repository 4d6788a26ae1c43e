-- Dropping jobs from an archive (02, g): "Given an archive and a list of job numbers, write an archive without them at the front of a lent
-- buffer and answer its length: remaining bodies move up, their sealed bytes unaltered, and starts, count and whole length are set anew. A
-- tagged archive is tagged again. A number listed twice counts once. The buffer past the new archive is unaltered, and an archive of no
-- jobs may result. Refused: 27, the list is not a multiple of 8 bytes, after the archive's own checks; then 18 and 19 per listed number in
-- list order; then 20."
-- Assumes nothing.
use Rattle.std.specs.Prelude.{◌≡◌, cond, List, [], ◌∷◌, ◌++◌, ℕ, length}
use Rattle.refusals.specs.Cases.{Case, first_of}
use Rattle.refusals.specs.Answers.{Answer, answer, written_for}
use Rattle.header.specs.Fields.{layout_under, archive_number}
use Rattle.admission.specs.Check.{check_cases}
use Rattle.opening.specs.Open.{room_cases}
use Rattle.codec.specs.Jobs.{Job}
use Rattle.codec.specs.Archive.{jobs_of, whole_length, archive_of}
use Rattle.joblist.specs.List.{is_listed, list_cases}

-- ---- what is written

-- the jobs whose number is not in a list, in the order that they have
unfoldable pub without : List ℕ → List Job → List Job
without list [] = []
without list (j ∷ js) = cond (is_listed list j.number) (without list js) (j ∷ without list js)

-- the jobs that are left of a file's
abbrev pub jobs_left : List ℕ → List ℕ → List Job
jobs_left file list = without list (jobs_of file)

-- the archive of these, under the same keys and with the same archive number: its bodies are the sealed bytes of the file
unfoldable pub dropped_file : List ℕ → List ℕ → List ℕ → List ℕ → List ℕ
dropped_file key tag_key file list = archive_of key tag_key (archive_number file) (jobs_left file list)

-- how long it is
abbrev pub length_left : List ℕ → List ℕ → List ℕ → ℕ
length_left tag_key file list = whole_length (layout_under tag_key) (jobs_left file list)

-- ---- the cases

-- those of the archive, "27 .. after the archive's own checks; then 18 and 19 per listed number in list order": what dropping asks before
-- it asks for room
unfoldable pub asked_cases : List ℕ → List ℕ → List ℕ → List ℕ → List Case
asked_cases key tag_key file list = check_cases key tag_key file ++ list_cases file list

-- "then 20": the new archive does not fit into a buffer of `room` bytes
unfoldable pub drop_cases : List ℕ → List ℕ → List ℕ → List ℕ → ℕ → List Case
drop_cases key tag_key file list room = asked_cases key tag_key file list ++ room_cases (length_left tag_key file list) room

-- ---- the contract

-- what dropping answers: the new archive's length
abbrev pub drop_of : List ℕ → List ℕ → List ℕ → List ℕ → ℕ → Answer
drop_of key tag_key file list room = answer (first_of (drop_cases key tag_key file list room)) (length_left tag_key file list)

-- the contract of dropping: a is its answer, and `after` what stands in the buffer that held `before`
pub record Drops (key tag_key file list before : List ℕ) (a : Answer) (after : List ℕ) : Type 0 where
  pub answered : a ≡ drop_of key tag_key file list (length before)
  pub bytes : after ≡ written_for a (dropped_file key tag_key file list) before
