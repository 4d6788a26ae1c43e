-- Laws of the value of digits.
-- Assumes nothing.
use mathlib.Core.Path.{◌≡◌, refl, ap, ap₂, ◌∙◌}
use mathlib.Core.Logic.{⊎_elim}
use mathlib.Core.List.{List, [], ◌∷◌, ◌++◌}
use Prim.Native.Nat.{ℕ, zero, suc, ◌+◌, ◌-◌, ◌*◌, ◌≤◌, ◌<◌}
use native.Mathlib.Nat.{eq-or-lt_of_le}
use native.Mathlib.Numerals.{add-one}
use native.Mathlib.Omega.{arith}
use lib.ListN.{length, length-append, get_or-append}
use lib.Seq.{get_or-append_seam}
use Rattle.decimal.specs.Decimal.{decimal_value}
use Rattle.decimal.specs.Word.{value_of}

-- digits behind the first k do not count
value_front : (xs ys : List ℕ) (k : ℕ) → k ≤ length xs → decimal_value (xs ++ ys) k ≡ decimal_value xs k
value_front xs ys zero l = refl
value_front xs ys (suc k) l =
    ap₂ (λ (v d : ℕ). v * 10 + (d - 48)) (value_front xs ys k (omega arith)) (get_or-append xs ys 0 k l)

-- one digit more
pub value_last : (xs : List ℕ) (d : ℕ) → value_of (xs ++ (d ∷ [])) ≡ value_of xs * 10 + (d - 48)
value_last xs d =
    let all : length xs ≤ length xs = omega arith in
    ap (decimal_value (xs ++ (d ∷ []))) (length-append xs (d ∷ []) ∙ add-one (length xs))
    ∙ ap₂ (λ (v x : ℕ). v * 10 + (x - 48)) (value_front xs (d ∷ []) (length xs) all) (get_or-append_seam xs d [] 0)

-- more digits have no less a value
pub value_grows : (s : List ℕ) (k n : ℕ) → k ≤ n → decimal_value s k ≤ decimal_value s n
value_grows s k zero l = let e : k ≡ 0 = omega arith in rw e (omega arith)
value_grows s k (suc n) l =
    ⊎_elim
    (λ (e : k ≡ suc n). rw e (omega arith))
    (λ (m : k < suc n). let below = value_grows s k n (omega arith) in omega arith)
    (eq-or-lt_of_le l)
