-- An archive as its jobs (01, The dryer archive; 02, a and d): the jobs that a file has, and the archive that jobs make, of the layout that
-- the tag key says. The bodies are sealed ones, and no definition looks into one.
-- Assumes nothing.
use Rattle.std.specs.Prelude.{◌≡◌, true, List, ◌∷◌, ◌++◌, ℕ, ◌+◌, ◌*◌, ◌≤◌, length}
use Rattle.octets.specs.Numbers.{bytes16, bytes32}
use Rattle.octets.specs.Tables.{values}
use Rattle.expansion.specs.KeySchedule.{schedule_of}
use Rattle.header.specs.Fields.{layout_under, tag_size, count_of, directory_of}
use Rattle.jobnumber.specs.Number.{is_job_number, order_of}
use Rattle.directory.specs.Entries.{entry_at, number_of}
use Rattle.bodies.specs.Bodies.{body_at}
use Rattle.admission.specs.Check.{key_check, tag_bytes}
use Rattle.codec.specs.Jobs.{Job, directory_from, bodies_in, Each, Ascending}

-- ---- read

-- the jobs of a file, by its directory
abbrev pub job_at : List ℕ → ℕ → Job
job_at file i = record { number = number_of (entry_at (directory_of file) i); body = body_at file i }

unfoldable pub jobs_of : List ℕ → List Job
jobs_of file = values (job_at file) (count_of file)

-- ---- built

-- the whole length of an archive of jobs
unfoldable pub whole_length : ℕ → List Job → ℕ
whole_length layout js = 20 + 16 * length js + length (bodies_in js) + tag_size layout

-- the header, field by field
unfoldable pub header_of : ℕ → ℕ → ℕ → List ℕ → List ℕ → ℕ → List ℕ
header_of layout keysize count number check whole =
    layout ∷ keysize ∷ (bytes16 count ++ (number ++ (check ++ bytes32 whole)))

-- all but the tag
unfoldable pub front_of : List ℕ → List ℕ → List ℕ → List Job → List ℕ
front_of key tag_key number js =
    header_of (layout_under tag_key) (length key) (length js) number (key_check (schedule_of key)) (whole_length (layout_under tag_key) js)
    ++ (directory_from (20 + 16 * length js) js ++ bodies_in js)

-- the archive: the tag, which has no bytes without a tag key, is of all bytes before it
unfoldable pub archive_of : List ℕ → List ℕ → List ℕ → List Job → List ℕ
archive_of key tag_key number js = front_of key tag_key number js ++ tag_bytes tag_key (front_of key tag_key number js)

-- an archive number and jobs of which an archive can be built under a tag key: four bytes; numbers of eight digits that ascend by the order
-- of years; at most 64 jobs, in at most 65,536 bytes. That elements are bytes is not asked
pub record Fine (tag_key number : List ℕ) (js : List Job) : Type 0 where
  pub four : length number ≡ 4
  pub numeric : Each (λ (j : Job). is_job_number j.number ≡ true) js
  pub ascending : Ascending order_of js
  pub few : length js ≤ 64
  pub small : whole_length (layout_under tag_key) js ≤ 65536
