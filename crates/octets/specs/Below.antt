-- A test at the numbers below a bound: at all of them, and at the first where it holds.
-- Assumes nothing.
use Rattle.std.specs.Prelude.{Bool, true, false, cond, ℕ, zero, suc}

-- whether a test holds at 0, 1, .., n - 1
unfoldable pub all_below : (ℕ → Bool) → ℕ → Bool
all_below test zero = true
all_below test (suc n) = cond (test zero) (all_below (λ (i : ℕ). test (suc i)) n) false

-- the first index below n at which a test holds; n where it holds at none
unfoldable pub first_index : (ℕ → Bool) → ℕ → ℕ
first_index test zero = 0
first_index test (suc n) = cond (test zero) 0 (suc (first_index (λ (i : ℕ). test (suc i)) n))
