-- The test `same_bytes` says whether two lists are equal.
-- Assumes nothing.
use mathlib.Core.Path.{◌≡◌, refl, sym, ap, ap₂, ◌∙◌}
use mathlib.Core.Bool.{Bool, true, false, ◌&&◌}
use mathlib.Core.List.{List, [], ◌∷◌}
use Prim.Native.Nat.{ℕ}
use borrow.Author.Tests.{eqb-true, eq-eqb}
use lib.Dec.{eqb}
use lib.Pointwise.{pointwise}
use Rattle.refusals.proofs.Booleans.{true_false, not_yes, both_true}
use Rattle.octets.specs.Equality.{same_bytes}

pub same_refl : (a : List ℕ) → same_bytes a a ≡ true
unfolding same_bytes
same_refl [] = refl
same_refl (x ∷ a) = rw (eq-eqb x x refl) (same_refl a)

pub same_eq : (a b : List ℕ) → same_bytes a b ≡ true → a ≡ b
unfolding same_bytes
same_eq [] [] e = refl
same_eq [] (y ∷ b) e = absurd (true_false (sym e))
same_eq (x ∷ a) [] e = absurd (true_false (sym e))
same_eq (x ∷ a) (y ∷ b) e =
    let h = both_true (eqb x y) (same_bytes a b) e in
    ap₂ (λ (z : ℕ) (l : List ℕ). z ∷ l) (eqb-true x y h.0) (same_eq a b h.1)

pub eq_same : (a b : List ℕ) → a ≡ b → same_bytes a b ≡ true
eq_same a b e = ap (same_bytes a) (sym e) ∙ same_refl a

pub ne_same : (a b : List ℕ) → (a ≡ b → ⊥) → same_bytes a b ≡ false
ne_same a b h = not_yes _ (λ e. h (same_eq a b e))

-- equality as std tests it is the same test
pub pointwise_same : (a b : List ℕ) → pointwise eqb a b ≡ same_bytes a b
unfolding same_bytes
pointwise_same [] [] = refl
pointwise_same [] (y ∷ b) = refl
pointwise_same (x ∷ a) [] = refl
pointwise_same (x ∷ a) (y ∷ b) = ap (λ (t : Bool). eqb x y && t) (pointwise_same a b)
