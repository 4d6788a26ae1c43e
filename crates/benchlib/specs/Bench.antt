-- Counter mode under a key, SP 800-38A, section 6.5, as the bench calls it: the number that it answers and the bytes that it leaves.
-- Assumes nothing.
use Rattle.std.specs.Prelude.{◌≡◌, List, ℕ, length, replicate}
use Rattle.refusals.specs.Cases.{first_of}
use Rattle.refusals.specs.Answers.{unless_refused}
use Rattle.refusals.specs.Shared.{key_cases}
use Rattle.octets.specs.Parts.{overwritten}
use Rattle.expansion.specs.KeySchedule.{schedule_of}
use Rattle.ctr.specs.Counter.{keystream, add_stream}

-- the first twelve bytes, filled with zero bytes on the right where there are fewer
abbrev pub twelve : List ℕ → List ℕ
twelve xs = overwritten xs (replicate 12 0)

-- a run xor the keystream of a key and a prefix, from byte `first` of it on; as it was where the key is refused
unfoldable pub key_ctr_bytes : List ℕ → List ℕ → ℕ → List ℕ → List ℕ
key_ctr_bytes key prefix first xs =
    unless_refused (first_of (key_cases (length key))) (add_stream (keystream (schedule_of key) (twelve prefix)) first xs) xs

-- the contract of counter mode under a key: r is 0, or 1 for a key that is not 16, 24 or 32 bytes long; `after` is what stands in the run
-- that held `before`
pub record AppliedUnderKey (key prefix : List ℕ) (first : ℕ) (before : List ℕ) (r : ℕ) (after : List ℕ) : Type 0 where
  pub number : r ≡ first_of (key_cases (length key))
  pub bytes : after ≡ key_ctr_bytes key prefix first before
