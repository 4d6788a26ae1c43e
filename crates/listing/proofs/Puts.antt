-- Laws of putting bytes behind a text.
-- Assumes nothing.
use mathlib.Core.Path.{◌≡◌, sym, ap, ◌∙◌, subst}
use mathlib.Core.List.{List, [], ◌++◌, append-nil}
use Prim.Native.Nat.{ℕ, ◌+◌, ◌≤◌}
use native.Mathlib.Omega.{arith}
use lib.ListN.{length, length-append}
use Rattle.std.proofs.lemmas.List.{append_assoc}
use Rattle.arrayvec.specs.ArrayVec.{ArrayVec, array_vec_len}
use Rattle.decimal.proofs.Digits.{decimal_small, decimal_more}
use Rattle.listing.specs.Internal.{Puts}

-- one after the other
pub puts_then : {a b c : ArrayVec ℕ} {s t : List ℕ} → Puts a s b → Puts b t c → Puts a (s ++ t) c
puts_then {a} {b} {c} {s} {t} p q = record {
  put = λ h.
      let both : array_vec_len a + (length s + length t) ≤ 1352 = omega (arith, length-append s t) in
      let first : b.items ≡ a.items ++ s = p.put (omega arith) in
      let size : length b.items ≡ length a.items + length s = ap length first ∙ length-append a.items s in
      let second : c.items ≡ b.items ++ t = q.put (omega arith) in
      second ∙ ap (λ (l : List ℕ). l ++ t) first ∙ append_assoc a.items s t;
}

-- the same bytes, said in another way
pub puts_as : {a b : ArrayVec ℕ} {s t : List ℕ} → s ≡ t → Puts a s b → Puts a t b
puts_as {a} {b} e p = subst (λ (l : List ℕ). Puts a l b) e p

-- no bytes
pub puts_none : (a : ArrayVec ℕ) → Puts a [] a
puts_none a = record { put = λ h. sym (append-nil a.items) }

-- all but the last digit, and then the last
pub ruleset digit_by_digit = (puts_then, puts_as, decimal_small, decimal_more)

-- line after line
pub ruleset by_entries = (puts_then, puts_none)
