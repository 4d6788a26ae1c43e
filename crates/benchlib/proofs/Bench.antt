-- Counter mode under a key, by what the preparation of the key came to.
-- Assumes nothing.
use mathlib.Core.Path.{◌≡◌, sym, ap, ◌∙◌}
use mathlib.Core.List.{List}
use Prim.Native.Nat.{ℕ}
use lib.ListN.{length}
use Rattle.refusals.specs.Cases.{first_of}
use Rattle.refusals.specs.Shared.{key_cases}
use Rattle.refusals.specs.declared.Refusal.{Refusal}
use Rattle.refusals.specs.Numbers.{number}
use Rattle.refusals.proofs.Numbers.{refused_leaves}
use Rattle.circuit.specs.declared.Schedule.{Schedule}
use Rattle.expansion.specs.KeySchedule.{schedule_of}
use Rattle.ctr.specs.Counter.{keystream, add_stream}
use Rattle.benchlib.specs.Bench.{twelve, AppliedUnderKey, key_ctr_bytes}

-- a key that is refused leaves the run alone
pub refused : (key prefix : List ℕ) (first : ℕ) (xs : List ℕ) (e : Refusal) (r : ℕ) → r ≡ number e
    → number e ≡ first_of (key_cases (length key))
    → AppliedUnderKey key prefix first xs r xs
unfolding key_ctr_bytes
refused key prefix first xs e r told case = record { number = told ∙ case; bytes = rw (sym case) (sym (refused_leaves e _ xs)) }

-- under a good key it is counter mode under the key's schedule; p is the prefix cut to twelve bytes
pub ready : (key prefix p : List ℕ) (first : ℕ) (xs ys : List ℕ) (s : Schedule) → 0 ≡ first_of (key_cases (length key))
    → s ≡ schedule_of key → p ≡ twelve prefix → ys ≡ add_stream (keystream s p) first xs → AppliedUnderKey key prefix first xs 0 ys
unfolding key_ctr_bytes
ready key prefix p first xs ys s none same cut applied = record {
  number = none;
  bytes =
      rw (sym none)
      (applied
      ∙ ap (λ (t : Schedule). add_stream (keystream t p) first xs) same
      ∙ ap (λ (q : List ℕ). add_stream (keystream (schedule_of key) q) first xs) cut);
}
