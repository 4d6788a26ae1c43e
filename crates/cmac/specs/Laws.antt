-- What is claimed of CMAC with ARIA (02, c: "A comparison call says yes exactly when the lent 16 bytes are that tag"), over the numbers and
-- records that the contracts cite.
-- Assumes nothing.
use Rattle.std.specs.Prelude.{◌≡◌, Bool, true, false, List, ℕ, length, Result}
use Rattle.refusals.specs.Numbers.{number_in}
use Rattle.refusals.specs.declared.Refusal.{Refusal}
use Rattle.refusals.specs.Shared.{good_key, key_cases, good_rounds, rounds_cases}
use Rattle.circuit.specs.declared.Schedule.{Schedule}
use Rattle.expansion.specs.KeySchedule.{schedule_of}
use Rattle.cmac.specs.Tag.{tag_under, tag_in, Tags, verify_number, verify_number_under, WritesTag}

-- a tag has sixteen bytes, on every schedule and every run
abbrev pub TagSize : Type 0
TagSize = (s : Schedule) (run : List ℕ) → length (tag_under s run) ≡ 16

-- each answer of a comparison, and when it is given, where `good` says whether key or schedule is good, and n is the refusal of a bad one.
-- Every input falls under one of the last four
pub record Compares (good : Bool) (n : ℕ) (s : Schedule) (run tag : List ℕ) (answer : ℕ) : Type 0 where
  pub only_yes : answer ≡ 0 → (good ≡ true) × (tag ≡ tag_under s run)
  pub always_yes : good ≡ true → tag ≡ tag_under s run → answer ≡ 0
  pub no_25 : good ≡ true → length tag ≡ 16 → (tag ≡ tag_under s run → ⊥) → answer ≡ 25
  pub length_23 : good ≡ true → (length tag ≡ 16 → ⊥) → answer ≡ 23
  pub refused : good ≡ false → answer ≡ n

-- under a key, of which a bad one gets 1
abbrev pub Comparison : Type 0
Comparison = (key run tag : List ℕ) → Compares (good_key (length key)) 1 (schedule_of key) run tag (verify_number key run tag)

-- under a schedule, of which a bad one gets 3
abbrev pub ComparisonUnder : Type 0
ComparisonUnder = (s : Schedule) (run tag : List ℕ) → Compares (good_rounds s.rounds) 3 s run tag (verify_number_under s run tag)

-- what writing answers and leaves in the lent tag, and when: 1 comes before 23, and both leave it as it was
pub record Writes (key run before : List ℕ) (r : ℕ) (after : List ℕ) : Type 0 where
  pub done : good_key (length key) ≡ true → length before ≡ 16 → (r ≡ 0) × (after ≡ tag_under (schedule_of key) run)
  pub length_23 : good_key (length key) ≡ true → (length before ≡ 16 → ⊥) → (r ≡ 23) × (after ≡ before)
  pub refused : good_key (length key) ≡ false → (r ≡ 1) × (after ≡ before)

abbrev pub Writing : Type 0
Writing = (key run before : List ℕ) (r : ℕ) (after : List ℕ) → WritesTag key run before r after → Writes key run before r after

-- a tag that was made without a refusal is one that a comparison says yes to
pub record MadeVerifies : Type 0 where
  pub written : (key run before : List ℕ) (r : ℕ) (after : List ℕ) → WritesTag key run before r after → r ≡ 0
      → verify_number key run after ≡ 0
  pub by_key : (key run : List ℕ) (r : Result (List ℕ) Refusal) → Tags (key_cases (length key)) (schedule_of key) run r
      → number_in r ≡ 0 → verify_number key run (tag_in r) ≡ 0
  pub by_schedule : (s : Schedule) (run : List ℕ) (r : Result (List ℕ) Refusal) → Tags (rounds_cases s.rounds) s run r → number_in r ≡ 0
      → verify_number_under s run (tag_in r) ≡ 0
