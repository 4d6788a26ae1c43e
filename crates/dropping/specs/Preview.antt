-- The preview of dropping (02, h): "Before anyone drops a lot, they want to see it. Answer the count and the whole length, and write the
-- contents that dropping would leave at the front of a lent buffer, the rest unaltered, writing no archive. .. and it gives every refusal
-- that dropping gives, except that 20 measures the contents only." 02's contents are the directory. "It must equal dropping into another
-- buffer, long enough, and reading the new archive's plate and contents": `preview_is_drop` of dropped_jobs.
-- Assumes nothing.
use Rattle.std.specs.Prelude.{◌≡◌, cond, List, ◌++◌, ℕ, ◌+◌, ◌*◌, eqb, length, drop, Result, Ok, Err}
use Rattle.refusals.specs.Cases.{Case, first_of}
use Rattle.refusals.specs.Answers.{unless_refused}
use Rattle.refusals.specs.declared.Refusal.{Refusal}
use Rattle.refusals.specs.Numbers.{number_in}
use Rattle.opening.specs.Open.{room_cases}
use Rattle.codec.specs.Jobs.{directory_from}
use Rattle.dropping.specs.Drop.{jobs_left, length_left, asked_cases}
use Rattle.dropping.specs.declared.Previewed.{Previewed}

-- how many jobs are left
abbrev pub count_left : List ℕ → List ℕ → ℕ
count_left file list = length (jobs_left file list)

-- their directory in an archive of them alone: the first body starts where it ends
unfoldable pub directory_left : List ℕ → List ℕ → List ℕ
directory_left file list = directory_from (20 + 16 * count_left file list) (jobs_left file list)

-- the cases: those of dropping, but that the directory alone has to fit into a buffer of `room` bytes
unfoldable pub preview_cases : List ℕ → List ℕ → List ℕ → List ℕ → ℕ → List Case
preview_cases key tag_key file list room = asked_cases key tag_key file list ++ room_cases (length (directory_left file list)) room

-- the count and the whole length that an answer tells; beside a refusal both are 0
abbrev pub count_in : Result Previewed Refusal → ℕ
count_in (Ok p) = p.count
count_in (Err e) = 0

abbrev pub length_in : Result Previewed Refusal → ℕ
length_in (Ok p) = p.length
length_in (Err e) = 0

-- the contract of the preview: r has the number of the first case, 0 for none, and the count and the whole length of what dropping would
-- leave, both 0 beside a refusal; `after` stands in the buffer that held `before`: the directory and then what stood there, or on a refusal
-- `before` as it was
pub record Previews (key tag_key file list before : List ℕ) (r : Result Previewed Refusal) (after : List ℕ) : Type 0 where
  pub number : number_in r ≡ first_of (preview_cases key tag_key file list (length before))
  pub counted : count_in r ≡ cond (eqb (number_in r) 0) (count_left file list) 0
  pub sized : length_in r ≡ cond (eqb (number_in r) 0) (length_left tag_key file list) 0
  pub bytes : after
      ≡ unless_refused (number_in r) (directory_left file list ++ drop (length (directory_left file list)) before) before
