-- The key check that is handed out, under a good schedule and under a bad one.
-- Assumes nothing.
use mathlib.Core.Path.{◌≡◌, ap}
use mathlib.Core.Bool.{true}
use Prim.Native.Nat.{ℕ}
use lib.ListN.{replicate}
use Rattle.refusals.specs.Cases.{first_of}
use Rattle.refusals.specs.Answers.{unless_refused}
use Rattle.refusals.specs.Shared.{good_rounds, rounds_cases}
use Rattle.refusals.proofs.Numbers.{number_some}
use Rattle.refusals.proofs.Shared.{rounds_0, rounds_3, rounds_good, rounds_bad}
use Rattle.circuit.specs.declared.Schedule.{Schedule}
use Rattle.admission.specs.Check.{key_check, key_check_under}

module _ (s : Schedule) where
  pub check_given : good_rounds s.rounds ≡ true → key_check_under s ≡ key_check s
  unfolding key_check_under
  check_given e = ap (λ (n : ℕ). unless_refused n (key_check s) (replicate 8 0)) (rounds_0 s.rounds e)

  pub check_refused : (first_of (rounds_cases s.rounds) ≡ 0 → ⊥) → key_check_under s ≡ replicate 8 0
  unfolding key_check_under
  check_refused h = ap (λ (n : ℕ). unless_refused n (key_check s) (replicate 8 0)) (rounds_3 s.rounds (rounds_bad s.rounds h))

-- a round count that is taken, and one that is not
pub ruleset of_any = (check_given, check_refused, number_some, rounds_good)
