-- Laws of Booleans and of tests that the toolchain's library lacks.
-- Assumes nothing.
use mathlib.Core.Path.{◌≡◌, refl, sym, ◌∙◌}
use mathlib.Core.Bool.{Bool, true, false, not, cond, ◌&&◌, ◌||◌}
use Prim.Native.Nat.{ℕ, ◌<◌, ◌≤◌}
use native.Mathlib.Omega.{arith}
use borrow.Author.Tests.{lt-ltb, le-ltb, ltb-true, ltb-false}
use lib.Dec.{ltb}

-- the two constructors of Bool differ
pub true_false : true ≡ false → ⊥
true_false e = let z : ◌≡◌ {A = ℕ} 0 1 = cc in omega arith

pub not_yes : (b : Bool) → (b ≡ true → ⊥) → b ≡ false
not_yes true h = absurd (h refl)
not_yes false h = refl

pub both_true : (a b : Bool) → (a && b) ≡ true → (a ≡ true) × (b ≡ true)
both_true true b e = (refl, e)
both_true false b e = absurd (true_false (sym e))

pub neither : (a b : Bool) → (a || b) ≡ false → (a ≡ false) × (b ≡ false)
neither true b e = absurd (true_false e)
neither false b e = (refl, e)

pub not_and : (a b : Bool) → not (a && b) ≡ (not a || not b)
not_and true b = refl
not_and false b = refl

pub not_twice : (a : Bool) → not (not a) ≡ a
not_twice true = refl
not_twice false = refl

-- two tests, each of which holds where the other does
pub both_ways : (a b : Bool) → (a ≡ true → b ≡ true) → (b ≡ true → a ≡ true) → a ≡ b
both_ways true b there back = sym (there refl)
both_ways false true there back = back refl
both_ways false false there back = refl

-- what holds of both outcomes of a test
pub by_test : {A : Type 0} {x y : A} (P : A → Type 0) (b : Bool) → P x → P y → P (cond b x y)
by_test P true p q = p
by_test P false p q = q

-- x < y and z < w come out alike, where either outcome of the first gives that of the second
pub same_test : (x y z w : ℕ) → (x < y → z < w) → (y ≤ x → w ≤ z) → ltb x y ≡ ltb z w
same_test x y z w below above = go (ltb x y) refl
  where
    go : (b : Bool) → ltb x y ≡ b → ltb x y ≡ ltb z w
    go true e = e ∙ sym (lt-ltb z w (below (ltb-true x y e)))
    go false e = e ∙ sym (le-ltb z w (above (ltb-false x y e)))
