-- Checking an archive and opening a job, as the bench and the tests call them: they answer 0, or the refusal, and nothing else.
-- Assumes nothing.
use Rattle.std.specs.Prelude.{◌≡◌, List, ℕ, length}
use Rattle.refusals.specs.Cases.{first_of}
use Rattle.refusals.specs.Answers.{written_for}
use Rattle.expansion.specs.KeySchedule.{schedule_of}
use Rattle.opening.specs.Open.{plain_range, open_cases, open_of}

-- the contract of opening a range: r is 0 or the refusal; `after` is what stands in the buffer that held `before`
pub record BenchOpens (key tag_key file number : List ℕ) (first count : ℕ) (before : List ℕ) (r : ℕ) (after : List ℕ) : Type 0 where
  pub refusal : r ≡ first_of (open_cases key tag_key file number first count (length before))
  pub bytes : after
      ≡ written_for (open_of key tag_key file number first count (length before)) (plain_range (schedule_of key) file number first count)
      before
