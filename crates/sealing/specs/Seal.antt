-- Sealing jobs into an archive (02, a): "A new call takes a key file's bytes, a job sheet and the plain bodies end to end, writes an
-- archive at the front of a lent buffer and answers its length. .. The key is the first so many bytes of the key file. .. The buffer's
-- bytes past the archive stay unaltered." With a tag key, which is one that has bytes, it is an archive of layout 2 (02, d).
-- Assumes nothing.
use Rattle.std.specs.Prelude.{◌≡◌, List, [], ◌∷◌, ◌++◌, map, ℕ, ◌+◌, ◌*◌, ltb, length, take, drop}
use Rattle.refusals.specs.Cases.{Case, when, first_of}
use Rattle.refusals.specs.Answers.{Answer, answer, written_for}
use Rattle.refusals.specs.Shared.{tag_key_cases}
use Rattle.octets.specs.Tables.{values}
use Rattle.circuit.specs.declared.Schedule.{Schedule}
use Rattle.expansion.specs.KeySchedule.{schedule_of}
use Rattle.header.specs.Fields.{layout_under, tag_size}
use Rattle.codec.specs.Jobs.{Job}
use Rattle.codec.specs.Archive.{archive_of}
use Rattle.opening.specs.Open.{under_keystream}
use Rattle.sheet.specs.Sheet.{key_size_on, archive_number_on, lines, job_number_on, size_on, sizes_on}
use Rattle.sheet.specs.Cases.{sheet_cases, lines_cases}

-- ---- what is written

-- the key
abbrev pub key_on : List ℕ → List ℕ → List ℕ
key_on key_file sheet = take (key_size_on sheet) key_file

-- the plain body of the job on line i: as many bytes as the line says, after those of the lines before
abbrev pub plain_on : List ℕ → List ℕ → ℕ → List ℕ
plain_on sheet plain i = take (size_on sheet i) (drop (sizes_on sheet i) plain)

-- the jobs, with their plain bodies
unfoldable pub jobs_on : List ℕ → List ℕ → List Job
jobs_on sheet plain = values (λ (i : ℕ). record { number = job_number_on sheet i; body = plain_on sheet plain i }) (lines sheet)

-- a job with its body under the keystream of the archive number and its own: of plain bytes the sealed body, and the other way round
abbrev pub seal_job : Schedule → List ℕ → Job → Job
seal_job s archive j = record { number = j.number; body = under_keystream s archive j.number j.body }

unfoldable pub seal_jobs : Schedule → List ℕ → List Job → List Job
seal_jobs s archive js = map (seal_job s archive) js

-- the archive
unfoldable pub sealed_file : List ℕ → List ℕ → List ℕ → List ℕ → List ℕ
sealed_file key_file tag_key sheet plain =
    archive_of (key_on key_file sheet) tag_key (archive_number_on sheet)
    (seal_jobs (schedule_of (key_on key_file sheet)) (archive_number_on sheet) (jobs_on sheet plain))

-- ---- the cases

-- the whole length of the archive, by the sheet
unfoldable pub length_on : ℕ → List ℕ → ℕ
length_on layout sheet = 20 + 16 * lines sheet + sizes_on sheet (lines sheet) + tag_size layout

-- "1 if the key file is too short for that length"
unfoldable pub key_file_cases : ℕ → ℕ → List Case
key_file_cases have size = when (ltb have size) 1 ∷ []

-- "6 if the archive would pass 65,536 bytes, 16 if the bodies run out, 17 if plain bytes remain, 20 if the buffer is too short": for an
-- archive of `whole` bytes whose bodies have `size`, with `given` plain bytes and a buffer of `room`
unfoldable pub length_cases : ℕ → ℕ → ℕ → ℕ → List Case
length_cases whole size given room =
    when (ltb 65536 whole) 6
    ∷ when (ltb given size) 16
    ∷ when (ltb size given) 17
    ∷ when (ltb room whole) 20
    ∷ []

-- the cases after those of the keys
unfoldable pub rest_cases : ℕ → List ℕ → ℕ → ℕ → List Case
rest_cases layout sheet given room = lines_cases sheet ++ length_cases (length_on layout sheet) (sizes_on sheet (lines sheet)) given room

-- all, in 02's order: "21, 22, 1 if the key file is too short for that length", 1 for a bad tag key straight after it, "9, then 13 and 14
-- per job, 6 .., 16 .., 17 .., 20"
unfoldable pub seal_cases : List ℕ → List ℕ → List ℕ → ℕ → ℕ → List Case
seal_cases key_file tag_key sheet given room =
    sheet_cases sheet
    ++ (key_file_cases (length key_file) (key_size_on sheet)
    ++ (tag_key_cases (length tag_key) ++ rest_cases (layout_under tag_key) sheet given room))

-- ---- the contract

-- what sealing answers: the archive's length
abbrev pub seal_of : List ℕ → List ℕ → List ℕ → ℕ → ℕ → Answer
seal_of key_file tag_key sheet given room =
    answer (first_of (seal_cases key_file tag_key sheet given room)) (length_on (layout_under tag_key) sheet)

-- the contract of sealing: a is its answer, and `after` what stands in the buffer that held `before`
pub record Seals (key_file tag_key sheet plain before : List ℕ) (a : Answer) (after : List ℕ) : Type 0 where
  pub answered : a ≡ seal_of key_file tag_key sheet (length plain) (length before)
  pub bytes : after ≡ written_for a (sealed_file key_file tag_key sheet plain) before
