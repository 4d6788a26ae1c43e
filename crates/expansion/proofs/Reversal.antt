-- What the decryption keys are: the used keys in reverse order, all but the first and the last through A.
-- Assumes nothing.
use mathlib.Core.Path.{◌≡◌, refl, sym, ap, ◌∙◌}
use Rattle.std.specs.Prelude.{Err}
use Rattle.refusals.specs.declared.Refusal.{Refusal}
use mathlib.Core.Bool.{Bool, true, false, cond, ◌||◌}
use mathlib.Core.List.{List}
use mathlib.Core.Logic.{◌⊎◌, inl, inr}
use Prim.Native.Nat.{ℕ, suc, ◌-◌, ◌≤◌}
use native.Mathlib.Omega.{arith}
use lib.Dec.{eqb}
use lib.ListN.{length}
use borrow.Author.Tests.{eq-eqb, ne_eqb}
use Rattle.refusals.specs.Shared.{good_rounds}
use Rattle.diffusion.specs.Diffusion.{diffusion}
use Rattle.diffusion.proofs.Table.{length_diffusion}
use Rattle.circuit.specs.Circuit.{key_at}
use Rattle.circuit.specs.Laws.{ReversedKeys}
use Rattle.circuit.specs.declared.Schedule.{Schedule}
use Rattle.circuit.specs.Good.{no_schedule, Accepts}
use Rattle.circuit.proofs.Good.{not_accepted}
use Rattle.circuit.proofs.Keys.{length_key}
use Rattle.expansion.specs.Decryption.{decryption_key, decryption_keys, decryption_of, Reverses}
use Rattle.expansion.proofs.KeyBytes.{key_bytes_at}

-- the first key and the last as they are, the others through A
pub first_key : (n : ℕ) (ks : List ℕ) (i : ℕ) → i ≡ 0 → decryption_key n ks i ≡ key_at ks (n - i)
unfolding decryption_key
first_key n ks i e = rw (eq-eqb i 0 e)

pub last_key : (n : ℕ) (ks : List ℕ) (i : ℕ) → i ≡ n → decryption_key n ks i ≡ key_at ks (n - i)
unfolding decryption_key
last_key n ks i e = by_case (eqb i 0)
  where
    by_case : (a : Bool) → cond (a || eqb i n) (key_at ks (n - i)) (diffusion (key_at ks (n - i))) ≡ key_at ks (n - i)
    by_case true = refl
    by_case false = rw (eq-eqb i n e)

pub outer_key : (n : ℕ) (ks : List ℕ) (i : ℕ) → (i ≡ 0) ⊎ (i ≡ n) → decryption_key n ks i ≡ key_at ks (n - i)
outer_key n ks i (inl e) = first_key n ks i e
outer_key n ks i (inr e) = last_key n ks i e

pub inner_key : (n : ℕ) (ks : List ℕ) (i : ℕ) → (i ≡ 0 → ⊥) → (i ≡ n → ⊥) → decryption_key n ks i ≡ diffusion (key_at ks (n - i))
unfolding decryption_key
inner_key n ks i h k = rw (ne_eqb i 0 h, ne_eqb i n k)

module _ (n : ℕ) (ks : List ℕ) where
  pub length_decryption_key : (i : ℕ) → length (decryption_key n ks i) ≡ 16
  unfolding decryption_key
  length_decryption_key i = by_case (eqb i 0 || eqb i n)
    where
      by_case : (a : Bool) → length (cond a (key_at ks (n - i)) (diffusion (key_at ks (n - i)))) ≡ 16
      by_case true = length_key ks (n - i)
      by_case false = length_diffusion (key_at ks (n - i))

  key_at_lem : (i : ℕ) → i ≤ n → key_at (decryption_keys n ks) i ≡ decryption_key n ks i
  unfolding decryption_keys
  key_at_lem i h = key_bytes_at (decryption_key n ks) (suc n) i (λ j l. length_decryption_key j) (omega arith)

  pub reversed_keys : ReversedKeys n ks (decryption_keys n ks)
  reversed_keys = record {
    first = key_at_lem 0 (omega arith) ∙ outer_key n ks 0 (inl refl) ∙ ap (key_at ks) (omega arith);
    last = key_at_lem n (omega arith) ∙ outer_key n ks n (inr refl) ∙ ap (key_at ks) (omega arith);
    inner = λ i j e hi hj.
        key_at_lem j (omega arith) ∙ inner_key n ks j (omega arith) (omega arith) ∙ ap (λ (m : ℕ). diffusion (key_at ks m)) (omega arith);
  }

-- the decryption schedule of a schedule with a good round count, and of another
pub decryption_good : (s : Schedule) → good_rounds s.rounds ≡ true
    → decryption_of s ≡ record { rounds = s.rounds; keys = decryption_keys s.rounds s.keys }
unfolding decryption_of
decryption_good s e = rw e

pub decryption_bad : (s : Schedule) → good_rounds s.rounds ≡ false → decryption_of s ≡ no_schedule
unfolding decryption_of
decryption_bad s e = rw e

-- a refusal for the round count, in place of the reversed schedule
pub reverse_refused : (s : Schedule) (e : Refusal) → Accepts s (Err e) → Reverses s (Err e)
reverse_refused s e a = record { number = a.number; schedule = sym (decryption_bad s (not_accepted s e a)) }
