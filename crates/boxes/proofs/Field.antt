-- FIPS 197's rule of S1, by one test that antt computes over all 256 entries.
-- Assumes nothing.
use mathlib.Core.Path.{◌≡◌}
use mathlib.Core.Bool.{Bool, ◌&&◌}
use Prim.Native.Nat.{ℕ, zero, suc, ◌<◌}
use native.Mathlib.Nat.{not-suc-le-zero}
use lib.Dec.{T, eqb, eqb→eq}
use lib.ListN.{get_or}
use Rattle.octets.proofs.Test.{both_left, both_right, every, at}
use Rattle.boxes.specs.Boxes.{s1}
use Rattle.boxes.specs.Field.{product, inverse, affine}

-- what x times its inverse is: 1, and 0 at 0
abbrev unit : ℕ → ℕ
unit zero = 0
unit (suc x) = 1

-- whether y, the entry at x, is by the rule; the inverse is computed once for both parts
by_rule : ℕ → ℕ → Bool
by_rule x y = let i = inverse x in eqb (product x i) (unit x) && eqb y (affine i)

all_by_rule : T (every by_rule 0 s1)
unfolding s1 by_rule product inverse affine
all_by_rule = tt

module _ (x : ℕ) (h : x < 256) where
  entry_by_rule : T (by_rule x (get_or s1 x 0))
  unfolding s1
  entry_by_rule = at by_rule 0 s1 all_by_rule x h

  product_unit : product x (inverse x) ≡ unit x
  unfolding by_rule
  product_unit =
      eqb→eq _ _ (both_left (eqb (product x (inverse x)) (unit x)) (eqb (get_or s1 x 0) (affine (inverse x))) entry_by_rule)

  pub rule : get_or s1 x 0 ≡ affine (inverse x)
  unfolding by_rule
  rule = eqb→eq _ _ (both_right (eqb (product x (inverse x)) (unit x)) (eqb (get_or s1 x 0) (affine (inverse x))) entry_by_rule)

pub inverses : (x : ℕ) → 0 < x → x < 256 → product x (inverse x) ≡ 1
inverses zero h l = absurd (not-suc-le-zero h)
inverses (suc x) h l = product_unit (suc x) l
