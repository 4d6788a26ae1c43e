-- Laws of lists of cases: where the first that applies stands, one group after another, item by item. They ask of the numbers only that
-- none is 0, or that one is missing; both are computed where a list is written out.
-- Assumes nothing.
use mathlib.Core.Path.{◌≡◌, refl, sym, ◌∙◌}
use mathlib.Core.Bool.{Bool, true, false, not, cond}
use mathlib.Core.List.{List, [], ◌∷◌, ◌++◌}
use Prim.Native.Nat.{ℕ, zero, suc, ◌<◌}
use native.Mathlib.Nat.{not-suc-le-zero}
use native.Mathlib.Omega.{arith}
use borrow.Author.Tests.{ltb-true, eqb-false, not-true}
use lib.Dec.{ltb, eqb}
use lib.ListN.{drop}
use lib.Seq.{drop-nil}
use Rattle.refusals.specs.Cases.{Case, when, first_of, item_by_item, positive, lacks}
use Rattle.refusals.proofs.Booleans.{true_false, both_true}

passes : (t : Bool) (n rest : ℕ) → 0 < n → cond t n rest ≡ 0 → (t ≡ false) × (rest ≡ 0)
passes true n rest l e = absurd (omega arith)
passes false n rest l e = (refl, e)

-- the first of a list and the rest
pub positive_head : (t : Bool) (n : ℕ) (cases : List Case) → positive (when t n ∷ cases) ≡ true → 0 < n
unfolding positive
positive_head t n cases p = ltb-true 0 n (both_true (ltb 0 n) (positive cases) p).0

pub positive_tail : (t : Bool) (n : ℕ) (cases : List Case) → positive (when t n ∷ cases) ≡ true → positive cases ≡ true
unfolding positive
positive_tail t n cases p = (both_true (ltb 0 n) (positive cases) p).1

-- ---- a list case by case: test k and number k

abbrev pub test_at : List Case → ℕ → Bool
test_at [] k = false
test_at (when t n ∷ cases) zero = t
test_at (when t n ∷ cases) (suc k) = test_at cases k

abbrev pub number_at : List Case → ℕ → ℕ
number_at [] k = 0
number_at (when t n ∷ cases) zero = n
number_at (when t n ∷ cases) (suc k) = number_at cases k

-- a case that does not apply is passed over
pub skip : (cases : List Case) (k : ℕ) → test_at cases k ≡ false → first_of (drop k cases) ≡ first_of (drop (suc k) cases)
unfolding first_of
skip [] k e = rw drop-nil
skip (when t n ∷ cases) zero e = rw e
skip (when t n ∷ cases) (suc k) e = skip cases k e

-- a case that applies is the answer
pub stop : (cases : List Case) (k : ℕ) → test_at cases k ≡ true → first_of (drop k cases) ≡ number_at cases k
unfolding first_of
stop [] k e = absurd (true_false (sym e))
stop (when t n ∷ cases) zero e = rw e
stop (when t n ∷ cases) (suc k) e = stop cases k e

-- where none applies, each test fails
pub clear : (cases : List Case) → positive cases ≡ true → first_of cases ≡ 0 → (k : ℕ) → test_at cases k ≡ false
unfolding first_of
clear [] p e k = refl
clear (when t n ∷ cases) p e k =
    let h = passes t n (first_of cases) (positive_head t n cases p) e in
    go k h.0 (clear cases (positive_tail t n cases p) h.1)
  where
    go : (k : ℕ) → t ≡ false → ((j : ℕ) → test_at cases j ≡ false) → test_at (when t n ∷ cases) k ≡ false
    go zero z r = z
    go (suc k) z r = r k

-- ---- a list of one case

pub one_applies : (t : Bool) (n : ℕ) → t ≡ true → first_of (when t n ∷ []) ≡ n
unfolding first_of
one_applies t n e = rw e

pub one_passes : (t : Bool) (n : ℕ) → t ≡ false → first_of (when t n ∷ []) ≡ 0
unfolding first_of
one_passes t n e = rw e

-- ---- one group of cases after another

-- the first group's answer stands
pub first_stop : (a b : List Case) → (first_of a ≡ 0 → ⊥) → first_of (a ++ b) ≡ first_of a
unfolding first_of
first_stop [] b h = absurd (h refl)
first_stop (when true n ∷ a) b h = refl
first_stop (when false n ∷ a) b h = first_stop a b h

-- the first group gives none: the second is asked
pub first_pass : (a b : List Case) → positive a ≡ true → first_of a ≡ 0 → first_of (a ++ b) ≡ first_of b
unfolding first_of
first_pass [] b p e = refl
first_pass (when t n ∷ a) b p e =
    let h = passes t n (first_of a) (positive_head t n a p) e in
    rw h.0 (first_pass a b (positive_tail t n a p) h.1)

-- none in both: none in each
pub first_none : (a b : List Case) → positive a ≡ true → first_of (a ++ b) ≡ 0 → (first_of a ≡ 0) × (first_of b ≡ 0)
unfolding first_of
first_none [] b p e = (refl, e)
first_none (when t n ∷ a) b p e =
    let h = passes t n (first_of (a ++ b)) (positive_head t n a p) e in
    let r = first_none a b (positive_tail t n a p) h.1 in
    (rw h.0 r.0, r.1)

-- groups with the same answers
pub first_alike : (a b c d : List Case) → positive a ≡ true → positive b ≡ true → first_of a ≡ first_of b
    → (first_of a ≡ 0 → first_of c ≡ first_of d) → first_of (a ++ c) ≡ first_of (b ++ d)
first_alike a b c d p q e h = go (first_of a) refl
  where
    go : (n : ℕ) → first_of a ≡ n → first_of (a ++ c) ≡ first_of (b ++ d)
    go zero z = first_pass a c p z ∙ h z ∙ sym (first_pass b d q (sym e ∙ z))
    go (suc n) z =
        let some : first_of a ≡ 0 → ⊥ = λ y. omega arith in
        first_stop a c some ∙ e ∙ sym (first_stop b d (λ y. some (e ∙ y)))

pub positive_append : (a b : List Case) → positive a ≡ true → positive b ≡ true → positive (a ++ b) ≡ true
unfolding positive
positive_append [] b p q = q
positive_append (when t n ∷ a) b p q =
    let r = both_true (ltb 0 n) (positive a) p in
    rw r.0 (positive_append a b r.1 q)

pub lacks_append : (m : ℕ) (a b : List Case) → lacks m a ≡ true → lacks m b ≡ true → lacks m (a ++ b) ≡ true
unfolding lacks
lacks_append m [] b p q = q
lacks_append m (when t n ∷ a) b p q =
    let r = both_true (not (eqb n m)) (lacks m a) p in
    rw r.0 (lacks_append m a b r.1 q)

-- a number that no case has is not the answer
pub first_lacks : (m : ℕ) (cases : List Case) → 0 < m → lacks m cases ≡ true → first_of cases ≡ m → ⊥
unfolding first_of lacks
first_lacks m [] l p e = omega arith
first_lacks m (when true n ∷ cases) l p e =
    eqb-false n m (not-true (eqb n m) (both_true (not (eqb n m)) (lacks m cases) p).0) e
first_lacks m (when false n ∷ cases) l p e = first_lacks m cases l (both_true (not (eqb n m)) (lacks m cases) p).1 e

-- ---- item by item

pub items_positive : (f : ℕ → List Case) (n : ℕ) → ((i : ℕ) → positive (f i) ≡ true) → positive (item_by_item f n) ≡ true
unfolding item_by_item positive
items_positive f zero p = refl
items_positive f (suc n) p =
    positive_append (f zero) _ (p zero) (items_positive (λ (i : ℕ). f (suc i)) n (λ i. p (suc i)))

pub items_lacks : (m : ℕ) (f : ℕ → List Case) (n : ℕ) → ((i : ℕ) → lacks m (f i) ≡ true) → lacks m (item_by_item f n) ≡ true
unfolding item_by_item lacks
items_lacks m f zero p = refl
items_lacks m f (suc n) p =
    lacks_append m (f zero) _ (p zero) (items_lacks m (λ (i : ℕ). f (suc i)) n (λ i. p (suc i)))

-- the first item that has a case
pub items_stop : (f : ℕ → List Case) (n i : ℕ) → ((k : ℕ) → positive (f k) ≡ true) → i < n → ((k : ℕ) → k < i → first_of (f k) ≡ 0)
    → (first_of (f i) ≡ 0 → ⊥) → first_of (item_by_item f n) ≡ first_of (f i)
unfolding item_by_item
items_stop f zero i p l h e = absurd (not-suc-le-zero l)
items_stop f (suc n) zero p l h e = first_stop (f zero) _ e
items_stop f (suc n) (suc i) p l h e =
    first_pass (f zero) _ (p zero) (h zero (omega arith))
    ∙ items_stop (λ (k : ℕ). f (suc k)) n i (λ k. p (suc k)) (omega arith) (λ k m. h (suc k) (omega arith)) e

-- no item has a case
pub items_pass : (f : ℕ → List Case) (n : ℕ) → ((k : ℕ) → positive (f k) ≡ true) → ((k : ℕ) → k < n → first_of (f k) ≡ 0)
    → first_of (item_by_item f n) ≡ 0
unfolding item_by_item first_of
items_pass f zero p h = refl
items_pass f (suc n) p h =
    first_pass (f zero) _ (p zero) (h zero (omega arith))
    ∙ items_pass (λ (k : ℕ). f (suc k)) n (λ k. p (suc k)) (λ k m. h (suc k) (omega arith))

pub items_none : (f : ℕ → List Case) (n : ℕ) → ((k : ℕ) → positive (f k) ≡ true) → first_of (item_by_item f n) ≡ 0
    → (k : ℕ) → k < n → first_of (f k) ≡ 0
unfolding item_by_item
items_none f zero p e k l = absurd (not-suc-le-zero l)
items_none f (suc n) p e zero l = (first_none (f zero) _ (p zero) e).0
items_none f (suc n) p e (suc k) l =
    items_none (λ (i : ℕ). f (suc i)) n (λ i. p (suc i)) (first_none (f zero) _ (p zero) e).1 k (omega arith)

-- items with the same answers, as far as the first that has a case
pub items_alike : (f g : ℕ → List Case) (n : ℕ) → ((k : ℕ) → positive (f k) ≡ true) → ((k : ℕ) → positive (g k) ≡ true)
    → ((i : ℕ) → i < n → ((k : ℕ) → k < i → first_of (f k) ≡ 0) → first_of (f i) ≡ first_of (g i))
    → first_of (item_by_item f n) ≡ first_of (item_by_item g n)
unfolding item_by_item
items_alike f g zero p q h = refl
items_alike f g (suc n) p q h =
    first_alike (f zero) (g zero) _ _ (p zero) (q zero) (h zero (omega arith) (λ k l. absurd (not-suc-le-zero l)))
    (λ e. items_alike (λ (i : ℕ). f (suc i)) (λ (i : ℕ). g (suc i)) n (λ i. p (suc i)) (λ i. q (suc i))
    (λ i l past. h (suc i) (omega arith) (passed e i past)))
  where
    passed : first_of (f zero) ≡ 0 → (i : ℕ) → ((k : ℕ) → k < i → first_of (f (suc k)) ≡ 0) → (k : ℕ) → k < suc i → first_of (f k) ≡ 0
    passed e i past zero l = e
    passed e i past (suc k) l = past k (omega arith)
