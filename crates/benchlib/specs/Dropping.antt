-- Dropping jobs and its preview, as the bench and the tests call them. Dropping answers 0, or the refusal, and nothing else: how long the
-- new archive is, its header says. The preview answers its three numbers in one.
-- Assumes nothing.
use Rattle.std.specs.Prelude.{◌≡◌, List, ℕ, ◌+◌, ◌*◌, length, Result}
use Rattle.refusals.specs.Cases.{first_of}
use Rattle.refusals.specs.Answers.{written_for}
use Rattle.refusals.specs.declared.Refusal.{Refusal}
use Rattle.refusals.specs.Numbers.{number_in}
use Rattle.dropping.specs.Drop.{dropped_file, drop_cases, drop_of}
use Rattle.dropping.specs.Preview.{count_in, length_in, Previews}
use Rattle.dropping.specs.declared.Previewed.{Previewed}

-- r is 0 or the refusal; `after` is what stands in the buffer that held `before`
pub record BenchDrops (key tag_key file list before : List ℕ) (r : ℕ) (after : List ℕ) : Type 0 where
  pub refusal : r ≡ first_of (drop_cases key tag_key file list (length before))
  pub bytes : after ≡ written_for (drop_of key tag_key file list (length before)) (dropped_file key tag_key file list) before

-- the three numbers of a preview in one; a refusal's number and a count are below 256
abbrev pub in_one : Result Previewed Refusal → ℕ
in_one r = number_in r + 256 * (count_in r + 256 * length_in r)

-- r is the numbers of a preview, and `after` what it leaves in the buffer that held `before`
pub record BenchPreviews (key tag_key file list before : List ℕ) (r : ℕ) (after : List ℕ) : Type 0 where
  pub seen : Result Previewed Refusal
  pub previews : Previews key tag_key file list before seen after
  pub numbers : r ≡ in_one seen
