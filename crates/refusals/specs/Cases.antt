-- Refusals (01, Reasons for sending work back): "The first case that applies, in the order below, is the answer." The cases of a call are a
-- list, in the paper's order; the call's number is that of the first that applies. Case numbers start at 1, so that 0 stands for none.
-- Assumes nothing.
use Rattle.std.specs.Prelude.{Bool, true, not, cond, ◌&&◌, List, [], ◌∷◌, ◌++◌, ℕ, zero, suc, eqb, ltb}

-- a case: when it applies, and its number
pub data Case : Type 0 where
  when : Bool → ℕ → Case

-- the number of the first case that applies, 0 for none
unfoldable pub first_of : List Case → ℕ
first_of [] = 0
first_of (when test n ∷ cases) = cond test n (first_of cases)

-- the cases of items 0, 1, .., n - 1, item by item
unfoldable pub item_by_item : (ℕ → List Case) → ℕ → List Case
item_by_item f zero = []
item_by_item f (suc n) = f zero ++ item_by_item (λ (i : ℕ). f (suc i)) n

-- ---- what laws ask of the numbers of a list, whichever they are

-- no case has the number 0
unfoldable pub positive : List Case → Bool
positive [] = true
positive (when test n ∷ cases) = ltb 0 n && positive cases

-- no case has the number m
unfoldable pub lacks : ℕ → List Case → Bool
lacks m [] = true
lacks m (when test n ∷ cases) = not (eqb n m) && lacks m cases
