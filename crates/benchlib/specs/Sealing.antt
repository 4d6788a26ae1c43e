-- Sealing an archive, as the bench and the tests call it: it answers 0, or the refusal, and nothing else. How long the archive is, its
-- header says.
-- Assumes nothing.
use Rattle.std.specs.Prelude.{◌≡◌, List, ℕ, length}
use Rattle.refusals.specs.Cases.{first_of}
use Rattle.refusals.specs.Answers.{written_for}
use Rattle.sealing.specs.Seal.{sealed_file, seal_cases, seal_of}

-- r is 0 or the refusal; `after` is what stands in the buffer that held `before`
pub record BenchSeals (key_file tag_key sheet plain before : List ℕ) (r : ℕ) (after : List ℕ) : Type 0 where
  pub refusal : r ≡ first_of (seal_cases key_file tag_key sheet (length plain) (length before))
  pub bytes : after
      ≡ written_for (seal_of key_file tag_key sheet (length plain) (length before)) (sealed_file key_file tag_key sheet plain) before
