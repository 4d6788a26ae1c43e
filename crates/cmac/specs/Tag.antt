-- CMAC with ARIA (02, c), under a key and under a schedule: the tag of a run, and whether lent bytes are that tag, with their refusals, 1
-- for the key or 3 for the round count, and then 23 for the lent tag's length.
-- Assumes nothing.
use Rattle.std.specs.Prelude.{◌≡◌, not, List, [], ◌∷◌, ◌++◌, ℕ, eqb, length, Result, Ok, Err}
use Rattle.refusals.specs.Cases.{Case, when, first_of}
use Rattle.refusals.specs.Answers.{unless_refused}
use Rattle.refusals.specs.Numbers.{number_in}
use Rattle.refusals.specs.declared.Refusal.{Refusal}
use Rattle.refusals.specs.Shared.{key_cases, rounds_cases}
use Rattle.octets.specs.Equality.{same_bytes}
use Rattle.blocks.specs.Chains.{zero_block}
use Rattle.circuit.specs.Run.{encrypted}
use Rattle.circuit.specs.declared.Schedule.{Schedule}
use Rattle.expansion.specs.KeySchedule.{schedule_of}
use Rattle.cmac.specs.Cmac.{mac_of}

-- the tag of a run under a schedule
unfoldable pub tag_under : Schedule → List ℕ → List ℕ
tag_under s run = mac_of (encrypted s) run

-- the tag that a result is, sixteen zero bytes where it is a refusal
abbrev pub tag_in : Result (List ℕ) Refusal → List ℕ
tag_in (Ok tag) = tag
tag_in (Err e) = zero_block

-- the contract of tagging under a schedule s whose refusals are `cases`: the number of the refusal, and the tag where there is none
pub record Tags (cases : List Case) (s : Schedule) (run : List ℕ) (r : Result (List ℕ) Refusal) : Type 0 where
  pub number : number_in r ≡ first_of cases
  pub tag : tag_in r ≡ unless_refused (first_of cases) (tag_under s run) zero_block

-- 23: the lent tag is not 16 bytes
unfoldable pub tag_cases : ℕ → List Case
tag_cases len = when (not (eqb len 16)) 23 ∷ []

-- the cases of a comparison: those of the key or the schedule, 23, and then 25, which is 02's number for a tag that differs
unfoldable pub verify_cases : List Case → Schedule → List ℕ → List ℕ → List Case
verify_cases cases s run tag = cases ++ (tag_cases (length tag) ++ (when (not (same_bytes (tag_under s run) tag)) 25 ∷ []))

-- the number that a comparison answers, under a key and under a schedule
abbrev pub verify_number : List ℕ → List ℕ → List ℕ → ℕ
verify_number key run tag = first_of (verify_cases (key_cases (length key)) (schedule_of key) run tag)

abbrev pub verify_number_under : Schedule → List ℕ → List ℕ → ℕ
verify_number_under s run tag = first_of (verify_cases (rounds_cases s.rounds) s run tag)

-- the number that writing answers, of a key and of a lent tag of so many bytes: 1, then 23
abbrev pub write_number : ℕ → ℕ → ℕ
write_number key_length len = first_of (key_cases key_length ++ tag_cases len)

-- the contract of writing the tag of a run under a key into a lent tag that held `before`; a refusal leaves the lent tag as it was
pub record WritesTag (key run before : List ℕ) (r : ℕ) (after : List ℕ) : Type 0 where
  pub number : r ≡ write_number (length key) (length before)
  pub bytes : after ≡ unless_refused (write_number (length key) (length before)) (tag_under (schedule_of key) run) before
