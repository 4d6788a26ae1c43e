-- Opening a job (01, The dryer archive): "A body is its plain bytes xor the forward sealing of counter blocks: archive number (4 bytes),
-- the eight digits, block index", that is counter mode with the archive number and the digits as prefix. "Opening writes the plain bytes at
-- the front of a lent buffer, answers how many, and leaves the rest of the buffer unaltered". It takes a range of the job (02, f): "Opening
-- shall take a first byte and a byte count within the job, and writes and counts those plain bytes only." Its refusals are those of
-- finding, then "26, first byte plus count, as whole numbers, passes the job's length", then 20, which "measures the range".
-- Assumes nothing.
use Rattle.std.specs.Prelude.{◌≡◌, List, [], ◌∷◌, ◌++◌, ℕ, ◌+◌, ltb, length, take, drop}
use Rattle.refusals.specs.Cases.{Case, when, first_of}
use Rattle.refusals.specs.Answers.{Answer, answer, written_for}
use Rattle.circuit.specs.declared.Schedule.{Schedule}
use Rattle.expansion.specs.KeySchedule.{schedule_of}
use Rattle.ctr.specs.Counter.{keystream, add_stream}
use Rattle.header.specs.Fields.{archive_number, directory_of}
use Rattle.directory.specs.Search.{index_of}
use Rattle.bodies.specs.Bodies.{body_at}
use Rattle.archive.specs.Find.{find_cases}

-- the first twelve bytes of a job's counter blocks, from the archive number and the job number
unfoldable pub prefix_of : List ℕ → List ℕ → List ℕ
prefix_of archive number = archive ++ number

-- a job's bytes xor its keystream: of a sealed body the plain bytes, of plain bytes the sealed body
unfoldable pub under_keystream : Schedule → List ℕ → List ℕ → List ℕ → List ℕ
under_keystream s archive number bytes = add_stream (keystream s (prefix_of archive number)) 0 bytes

-- the sealed body of the job that bears the number, and its plain bytes
abbrev pub body_of : List ℕ → List ℕ → List ℕ
body_of file number = body_at file (index_of (directory_of file) number)

abbrev pub plain_of : Schedule → List ℕ → List ℕ → List ℕ
plain_of s file number = under_keystream s (archive_number file) number (body_of file number)

-- how many bytes the job has, sealed as plain; 0 where the search comes to no entry
abbrev pub job_size : List ℕ → List ℕ → ℕ
job_size file number = length (body_of file number)

-- `count` bytes from byte `first` on, counted from 0, as far as there are
abbrev pub range_of : ℕ → ℕ → List ℕ → List ℕ
range_of first count bytes = take count (drop first bytes)

-- the plain bytes of a range of the job
abbrev pub plain_range : Schedule → List ℕ → List ℕ → ℕ → ℕ → List ℕ
plain_range s file number first count = range_of first count (plain_of s file number)

-- the case of `size` bytes that do not fit into a buffer of `room`
unfoldable pub room_cases : ℕ → ℕ → List Case
room_cases size room = when (ltb room size) 20 ∷ []

-- the cases of a range of a job of `size` bytes: it passes the job's end, or does not fit into the buffer
unfoldable pub range_cases : ℕ → ℕ → ℕ → ℕ → List Case
range_cases size first count room = when (ltb size (first + count)) 26 ∷ room_cases count room

-- the cases of opening a range into a buffer of `room` bytes
unfoldable pub open_cases : List ℕ → List ℕ → List ℕ → List ℕ → ℕ → ℕ → ℕ → List Case
open_cases key tag_key file number first count room =
    find_cases key tag_key file number ++ range_cases (job_size file number) first count room

-- what opening answers: how many plain bytes the range has
abbrev pub open_of : List ℕ → List ℕ → List ℕ → List ℕ → ℕ → ℕ → ℕ → Answer
open_of key tag_key file number first count room = answer (first_of (open_cases key tag_key file number first count room)) count

-- the contract of opening a range: a is its answer, and `after` what stands in the buffer that held `before`. A whole job is the range of
-- `job_size` bytes from byte 0 on; specs/Ranges of `opened_jobs` has what that comes to
pub record Opens (key tag_key file number : List ℕ) (first count : ℕ) (before : List ℕ) (a : Answer) (after : List ℕ) : Type 0 where
  pub answered : a ≡ open_of key tag_key file number first count (length before)
  pub bytes : after ≡ written_for a (plain_range (schedule_of key) file number first count) before
