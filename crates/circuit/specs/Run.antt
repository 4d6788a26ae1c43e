-- A run of blocks under a schedule (01, Reasons for sending work back 3 and 4): the number that it answers, and the bytes that it leaves.
-- Every engine has the contract `Ran`.
-- Assumes nothing.
use Rattle.std.specs.Prelude.{◌≡◌, List, ◌++◌, ℕ, length}
use Rattle.refusals.specs.Cases.{Case, first_of}
use Rattle.refusals.specs.Answers.{unless_refused}
use Rattle.refusals.specs.Shared.{rounds_cases, whole_cases}
use Rattle.blocks.specs.Runs.{each_block}
use Rattle.circuit.specs.Circuit.{aria}
use Rattle.circuit.specs.declared.Schedule.{Schedule}

-- a block through ARIA's rounds under a schedule
abbrev pub encrypted : Schedule → List ℕ → List ℕ
encrypted s b = aria s.rounds s.keys b

-- the cases of a run of so many bytes under a schedule of so many rounds: 3, then 4
unfoldable pub run_cases : ℕ → ℕ → List Case
run_cases rounds len = rounds_cases rounds ++ whole_cases len

-- the number that a run answers; 0: the run is done
abbrev pub run_number : ℕ → ℕ → ℕ
run_number rounds len = first_of (run_cases rounds len)

-- each block through the rounds, in order; a refused run is as it was
unfoldable pub run_bytes : Schedule → List ℕ → List ℕ
run_bytes s xs = unless_refused (run_number s.rounds (length xs)) (each_block (encrypted s) xs) xs

-- the contract of a run under schedule s: r is its number, and `after` what stands in the run that held `before`
pub record Ran (s : Schedule) (before : List ℕ) (r : ℕ) (after : List ℕ) : Type 0 where
  pub number : r ≡ run_number s.rounds (length before)
  pub bytes : after ≡ run_bytes s before
