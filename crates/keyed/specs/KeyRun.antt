-- A run of blocks under a key, in a direction, 0 forward and 1 back (01, Host programs in Rust; Reasons for sending work back 1, 2 and 4):
-- the number that it answers and the bytes that it leaves.
-- Assumes nothing.
use Rattle.std.specs.Prelude.{◌≡◌, List, ◌++◌, ℕ, zero, suc, length}
use Rattle.refusals.specs.Cases.{Case, first_of}
use Rattle.refusals.specs.Answers.{unless_refused}
use Rattle.refusals.specs.Shared.{key_cases, direction_cases, whole_cases}
use Rattle.blocks.specs.Runs.{each_block}
use Rattle.circuit.specs.Run.{encrypted}
use Rattle.circuit.specs.declared.Schedule.{Schedule}
use Rattle.expansion.specs.KeySchedule.{schedule_of}
use Rattle.expansion.specs.Decryption.{decryption_of}

-- the schedule for a direction: a schedule itself forward, its decryption schedule back
abbrev pub directed : Schedule → ℕ → Schedule
directed s zero = s
directed s (suc n) = decryption_of s

-- the cases of a run of so many bytes under a key of so many bytes: 1, 2, then 4
unfoldable pub key_run_cases : ℕ → ℕ → ℕ → List Case
key_run_cases key_length direction len = key_cases key_length ++ (direction_cases direction ++ whole_cases len)

-- the number that a run under a key answers; 0: the run is done
abbrev pub key_run_number : ℕ → ℕ → ℕ → ℕ
key_run_number key_length direction len = first_of (key_run_cases key_length direction len)

-- each block through the rounds under the schedule for the direction; a refused run is as it was
unfoldable pub key_run_bytes : List ℕ → ℕ → List ℕ → List ℕ
key_run_bytes key direction xs =
    unless_refused (key_run_number (length key) direction (length xs)) (each_block (encrypted (directed (schedule_of key) direction)) xs) xs

-- the contract of a run under a key: r is its number, and `after` what stands in the run that held `before`
pub record RanUnderKey (key : List ℕ) (direction : ℕ) (before : List ℕ) (r : ℕ) (after : List ℕ) : Type 0 where
  pub number : r ≡ key_run_number (length key) direction (length before)
  pub bytes : after ≡ key_run_bytes key direction before
