-- The bytes that counter mode leaves, under a good schedule and under a bad one.
-- Assumes nothing.
use mathlib.Core.Path.{◌≡◌, sym, ap, ◌∙◌}
use mathlib.Core.Bool.{Bool, true, false, cond}
use mathlib.Core.List.{List}
use Prim.Native.Nat.{ℕ}
use Rattle.std.specs.Prelude.{Ok}
use Rattle.refusals.specs.Cases.{first_of}
use Rattle.refusals.specs.Shared.{good_rounds, rounds_cases}
use Rattle.refusals.specs.Answers.{unless_refused}
use Rattle.refusals.proofs.Shared.{rounds_0, rounds_3, rounds_good, rounds_bad}
use Rattle.circuit.specs.Good.{no_schedule, Accepts}
use Rattle.circuit.specs.declared.GoodSchedule.{GoodSchedule}
use Rattle.circuit.specs.declared.Schedule.{Schedule}
use Rattle.ctr.specs.Counter.{keystream, add_stream, ctr_bytes, Applied}

module _ (s : Schedule) (prefix : List ℕ) (first : ℕ) (xs : List ℕ) where
  pub ctr_done : good_rounds s.rounds ≡ true → ctr_bytes s prefix first xs ≡ add_stream (keystream s prefix) first xs
  unfolding ctr_bytes
  ctr_done e = ap (λ (n : ℕ). unless_refused n (add_stream (keystream s prefix) first xs) xs) (rounds_0 s.rounds e)

  pub ctr_refused : good_rounds s.rounds ≡ false → ctr_bytes s prefix first xs ≡ xs
  unfolding ctr_bytes
  ctr_refused e = ap (λ (n : ℕ). unless_refused n (add_stream (keystream s prefix) first xs) xs) (rounds_3 s.rounds e)

  -- done, where the schedule is good
  pub applied_good : (after : List ℕ) → good_rounds s.rounds ≡ true → after ≡ add_stream (keystream s prefix) first xs
      → Applied s prefix first xs 0 after
  applied_good after good e = record { number = sym (rounds_0 s.rounds good); bytes = e ∙ sym (ctr_done good) }

  -- refused
  pub applied_none : (n : ℕ) → n ≡ first_of (rounds_cases s.rounds) → (n ≡ 0 → ⊥) → Applied s prefix first xs n xs
  applied_none n e h = record { number = e; bytes = sym (ctr_refused (rounds_bad s.rounds (λ q. h (e ∙ q)))) }

  -- taken for a good schedule
  pub applied : (good : GoodSchedule) (after : List ℕ) → Accepts s (Ok good)
      → after ≡ add_stream (keystream good.schedule prefix) first xs → Applied s prefix first xs 0 after
  applied good after taken e =
      let rounds = rounds_good s.rounds (sym taken.number) in
      let same : good.schedule ≡ s = taken.schedule ∙ ap (λ (b : Bool). cond b s no_schedule) rounds in
      record {
        number = taken.number;
        bytes = e ∙ ap (λ (t : Schedule). add_stream (keystream t prefix) first xs) same ∙ sym (ctr_done rounds);
      }
