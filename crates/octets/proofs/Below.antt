-- Laws of a test at the numbers below a bound: at all of them, and at the first where it holds.
-- Assumes nothing.
use mathlib.Core.Path.{◌≡◌, refl, sym, ap, ◌∙◌}
use mathlib.Core.Bool.{Bool, true, false, cond, ◌&&◌}
use Prim.Native.Nat.{ℕ, zero, suc, ◌<◌, ◌≤◌}
use native.Mathlib.Nat.{not-suc-le-zero}
use native.Mathlib.Omega.{arith}
use Rattle.refusals.proofs.Booleans.{true_false}
use Rattle.octets.specs.Below.{first_index, all_below}

-- ---- at all

pub all_yes : (p : ℕ → Bool) (n : ℕ) → ((k : ℕ) → k < n → p k ≡ true) → all_below p n ≡ true
unfolding all_below
all_yes p zero h = refl
all_yes p (suc n) h = rw (h zero (omega arith)) (all_yes (λ (k : ℕ). p (suc k)) n (λ k l. h (suc k) (omega arith)))

cond_no : (b : Bool) → cond b false false ≡ false
cond_no true = refl
cond_no false = refl

pub all_no : (p : ℕ → Bool) (n i : ℕ) → i < n → p i ≡ false → all_below p n ≡ false
unfolding all_below
all_no p zero i l h = absurd (not-suc-le-zero l)
all_no p (suc n) zero l h = rw h
all_no p (suc n) (suc i) l h = rw (all_no (λ (k : ℕ). p (suc k)) n i (omega arith) h) (cond_no (p zero))

pub all_each : (p : ℕ → Bool) (n : ℕ) → all_below p n ≡ true → (i : ℕ) → i < n → p i ≡ true
all_each p n h i l = go (p i) refl
  where
    go : (b : Bool) → p i ≡ b → p i ≡ true
    go true e = e
    go false e = absurd (true_false (sym h ∙ all_no p n i l e))

-- one number more
pub all_next : (p : ℕ → Bool) (n : ℕ) → all_below p (suc n) ≡ (all_below p n && p n)
unfolding all_below
all_next p zero = alone (p zero)
  where
    alone : (b : Bool) → cond b true false ≡ b
    alone true = refl
    alone false = refl
all_next p (suc n) = after (p zero) (all_next (λ (i : ℕ). p (suc i)) n)
  where
    after : (b : Bool) → all_below (λ (i : ℕ). p (suc i)) (suc n) ≡ (all_below (λ (i : ℕ). p (suc i)) n && p (suc n))
        → cond b (all_below (λ (i : ℕ). p (suc i)) (suc n)) false ≡ (cond b (all_below (λ (i : ℕ). p (suc i)) n) false && p (suc n))
    after true e = e
    after false e = refl

-- tests that come out alike
pub all_same : (p q : ℕ → Bool) (n : ℕ) → ((k : ℕ) → k < n → p k ≡ q k) → all_below p n ≡ all_below q n
unfolding all_below
all_same p q zero h = refl
all_same p q (suc n) h =
    rw (h zero (omega arith), all_same (λ (k : ℕ). p (suc k)) (λ (k : ℕ). q (suc k)) n (λ k l. h (suc k) (omega arith)))

-- ---- at the first

pub index_at : (p : ℕ → Bool) (n i : ℕ) → i < n → ((k : ℕ) → k < i → p k ≡ false) → p i ≡ true → first_index p n ≡ i
unfolding first_index
index_at p zero i l h e = absurd (not-suc-le-zero l)
index_at p (suc n) zero l h e = rw e
index_at p (suc n) (suc i) l h e =
    rw (h zero (omega arith)) (ap suc (index_at (λ (k : ℕ). p (suc k)) n i (omega arith) (λ k m. h (suc k) (omega arith)) e))

step_le : (b : Bool) (m n : ℕ) → m ≤ n → cond b 0 (suc m) ≤ suc n
step_le true m n h = omega arith
step_le false m n h = omega arith

pub index_le : (p : ℕ → Bool) (n : ℕ) → first_index p n ≤ n
unfolding first_index
index_le p zero = omega arith
index_le p (suc n) = step_le (p zero) _ n (index_le (λ (k : ℕ). p (suc k)) n)

-- it is no further than any number at which the test holds
pub index_most : (p : ℕ → Bool) (n k : ℕ) → p k ≡ true → first_index p n ≤ k
unfolding first_index
index_most p zero k e = omega arith
index_most p (suc n) zero e = rw e (omega arith)
index_most p (suc n) (suc k) e = step_le (p zero) _ k (index_most (λ (j : ℕ). p (suc j)) n k e)

missed : (p : ℕ → Bool) (b : Bool) (m k : ℕ) → p zero ≡ b → ((j : ℕ) → j < m → p (suc j) ≡ false) → k < cond b 0 (suc m) → p k ≡ false
missed p true m k e h l = absurd (not-suc-le-zero l)
missed p false m zero e h l = e
missed p false m (suc k) e h l = h k (omega arith)

-- before the index the test fails
pub index_before : (p : ℕ → Bool) (n k : ℕ) → k < first_index p n → p k ≡ false
unfolding first_index
index_before p zero k l = absurd (not-suc-le-zero l)
index_before p (suc n) k l = missed p (p zero) _ k refl (index_before (λ (j : ℕ). p (suc j)) n) l

hit : (p : ℕ → Bool) (b : Bool) (m n : ℕ) → p zero ≡ b → (m < n → p (suc m) ≡ true) → cond b 0 (suc m) < suc n → p (cond b 0 (suc m)) ≡ true
hit p true m n e h l = e
hit p false m n e h l = h (omega arith)

-- the index is below n: the test holds there
pub index_hit : (p : ℕ → Bool) (n : ℕ) → first_index p n < n → p (first_index p n) ≡ true
unfolding first_index
index_hit p zero l = absurd (not-suc-le-zero l)
index_hit p (suc n) l = hit p (p zero) _ n refl (index_hit (λ (k : ℕ). p (suc k)) n) l
