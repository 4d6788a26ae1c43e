-- Internal: what the inner functions promise each other. No public contract cites it.
-- Assumes nothing.
use Rattle.std.specs.Prelude.{◌≡◌, Bool, false, cond, List, [], ◌∷◌, ◌++◌, ℕ, zero, suc, ◌+◌}
use Rattle.std.specs.Prelude.{◌*◌, ◌≤◌, eqb, length, get_or, drop, Result, Option, Some, None}
use Rattle.refusals.specs.Cases.{first_of}
use Rattle.refusals.specs.Answers.{Answer, answer, written_for, unless_refused}
use Rattle.refusals.specs.declared.Refusal.{Refusal}
use Rattle.refusals.specs.Numbers.{number_in}
use Rattle.circuit.specs.declared.GoodSchedule.{GoodSchedule}
use Rattle.cmac.specs.Tag.{tag_under}
use Rattle.header.specs.Fields.{layout_of, key_length_of, count_of, archive_number, key_check_of}
use Rattle.opening.specs.Open.{room_cases}
use Rattle.codec.specs.Jobs.{Job, directory_from, bodies_in}
use Rattle.codec.specs.Archive.{job_at, whole_length, header_of}
use Rattle.dropping.specs.Preview.{count_in, length_in}
use Rattle.dropping.specs.declared.Previewed.{Previewed}

-- ---- the jobs that are left, by the marks of those that are dropped

-- of entry i: its job, if it is not marked
unfoldable pub left_at : List Bool → List ℕ → ℕ → List Job
left_at named file i = cond (get_or named i false) [] (job_at file i ∷ [])

-- of the first n entries
unfoldable pub left_of : List Bool → List ℕ → ℕ → List Job
left_of named file zero = []
left_of named file (suc n) = left_of named file n ++ left_at named file n

-- of all
abbrev pub left_all : List Bool → List ℕ → List Job
left_all named file = left_of named file (count_of file)

-- ---- what is written

-- the header: layout, key length, archive number and key check stay
abbrev pub header_left : List ℕ → ℕ → ℕ → List ℕ
header_left file count whole = header_of (layout_of file) (key_length_of file) count (archive_number file) (key_check_of file) whole

-- the directory
abbrev pub entries_left : List Bool → List ℕ → List ℕ
entries_left named file = directory_from (20 + 16 * length (left_all named file)) (left_all named file)

-- all but the tag
unfoldable pub front_left : List Bool → List ℕ → List ℕ
front_left named file =
    header_left file (length (left_all named file)) (whole_length (layout_of file) (left_all named file))
    ++ (directory_from (20 + 16 * length (left_all named file)) (left_all named file) ++ bodies_in (left_all named file))

-- ---- by the tag key's schedule, where there is one

-- the layout
abbrev pub layout_in : Option GoodSchedule → ℕ
layout_in None = 1
layout_in (Some s) = 2

-- the tag of bytes
abbrev pub tag_in : Option GoodSchedule → List ℕ → List ℕ
tag_in None bytes = []
tag_in (Some s) bytes = tag_under s.schedule bytes

-- ---- what the functions promise

-- what is known of a file when writing begins: at most 64 jobs, a whole directory, and no more bytes than an archive has
pub record Whole (file : List ℕ) : Type 0 where
  pub few : count_of file ≤ 64
  pub room : 20 + 16 * count_of file ≤ length file
  pub short : length file ≤ 65536

-- how long the new archive is
abbrev pub whole_left : List Bool → List ℕ → ℕ
whole_left named file = whole_length (layout_of file) (left_all named file)

-- dropping the marked entries: the case of the buffer is left
pub record DropsMarked (s : Option GoodSchedule) (named : List Bool) (file before : List ℕ) (a : Answer) (after : List ℕ) : Type 0 where
  pub answered : a ≡ answer (first_of (room_cases (whole_left named file) (length before))) (whole_left named file)
  pub bytes : after ≡ written_for a (front_left named file ++ tag_in s (front_left named file)) before

-- the preview of dropping the marked entries, in the same way
pub record PreviewsMarked (named : List Bool) (file before : List ℕ) (r : Result Previewed Refusal) (after : List ℕ) : Type 0 where
  pub number : number_in r ≡ first_of (room_cases (length (entries_left named file)) (length before))
  pub counted : count_in r ≡ cond (eqb (number_in r) 0) (length (left_all named file)) 0
  pub sized : length_in r ≡ cond (eqb (number_in r) 0) (whole_left named file) 0
  pub bytes : after ≡ unless_refused (number_in r) (entries_left named file ++ drop (length (entries_left named file)) before) before
