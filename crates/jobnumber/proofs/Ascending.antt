-- Rows whose job numbers ascend from each to the next ascend from each to all behind it, and no two bear the same.
-- Assumes nothing.
use mathlib.Core.Path.{◌≡◌, refl}
use mathlib.Core.Bool.{Bool, true, false}
use mathlib.Core.List.{List}
use mathlib.Core.Logic.{⊎_elim}
use Prim.Native.Nat.{ℕ, zero, suc, ◌-◌, ◌<◌}
use native.Mathlib.Nat.{not-suc-le-zero, lt_trans, eq-or-lt_of_le}
use native.Mathlib.Omega.{arith}
use borrow.Author.Tests.{ltb-true, ltb-false, lt-ltb, ne_eqb}
use lib.Dec.{ltb}
use lib.ListN.{take}
use Rattle.jobnumber.specs.Number.{order_of}
use Rattle.jobnumber.specs.Ascending.{ascends_in}
use Rattle.jobnumber.proofs.Order.{same_order}

module _ (order : List ℕ → ℕ) (row : ℕ → List ℕ) where
  above_before : (i : ℕ) → ascends_in order row (suc i) ≡ true → order (row i) < order (row (suc i))
  unfolding ascends_in
  above_before i e =
      let p : suc i - 1 ≡ i = omega arith in
      ltb-true _ _ (rw (ne_eqb (suc i) 0 (λ q. omega arith), p) at e)

  pub before_above : (i : ℕ) → ((k : ℕ) → k < i → order (row k) < order (row i)) → ascends_in order row i ≡ true
  unfolding ascends_in
  before_above zero h = refl
  before_above (suc i) h =
      let p : suc i - 1 ≡ i = omega arith in
      rw (ne_eqb (suc i) 0 (λ q. omega arith), p) (lt-ltb _ _ (h i (omega arith)))

  pub above_all : (n : ℕ) → ((i : ℕ) → i < n → ascends_in order row i ≡ true) → (j i : ℕ) → i < j → j < n → order (row i) < order (row j)
  above_all n h zero i l m = absurd (not-suc-le-zero l)
  above_all n h (suc j) i l m =
      let here = above_before j (h (suc j) m) in
      ⊎_elim (λ q. rw q here) (λ q. lt_trans (above_all n h j i q (omega arith)) here) (eq-or-lt_of_le {n = i} {m = j} (omega arith))

-- rows that ascend bear different numbers
module _ (row : ℕ → List ℕ) (n : ℕ) (above : (i j : ℕ) → i < j → j < n → order_of (row i) < order_of (row j)) where
  pub rows_single : (i j : ℕ) → i < n → j < n → take 8 (row i) ≡ take 8 (row j) → i ≡ j
  rows_single i j l m q = by_tests (ltb i j) refl (ltb j i) refl
    where
      by_tests : (a : Bool) → ltb i j ≡ a → (b : Bool) → ltb j i ≡ b → i ≡ j
      by_tests true x b y = absurd (omega (arith, above i j (ltb-true i j x) m, same_order (row i) (row j) q))
      by_tests false x true y = absurd (omega (arith, above j i (ltb-true j i y) l, same_order (row i) (row j) q))
      by_tests false x false y = omega (arith, ltb-false i j x, ltb-false j i y)
