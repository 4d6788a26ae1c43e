-- A loop that replaces the elements of b by those of t, one a turn from the front: after j turns the list is `take j t ++ drop j b`.
-- Assumes nothing.
use mathlib.Core.Path.{◌≡◌, refl, sym, ap, ◌∙◌, subst}
use Prim.Native.Nat.{ℕ, zero, suc, ◌+◌, ◌≤◌, ◌<◌}
use native.Mathlib.Nat.{not-suc-le-zero, le_of_suc-le-suc, le_of_lt}
use native.Mathlib.Numerals.{add-one}
use mathlib.Core.List.{List, [], ◌∷◌, ◌++◌, append-nil}
use lib.ListN.{length, get_or, set, take, drop, drop_of_length-le}
use lib.Seq.{take_all}

abbrev pub filled : List ℕ → List ℕ → ℕ → List ℕ
filled t b j = take j t ++ drop j b

pub filled_set : (t b : List ℕ) (j : ℕ) → j < length b → j < length t → set (filled t b j) j (get_or t j 0) ≡ filled t b (j + 1)
filled_set t b j hb ht = go t b j hb ht ∙ ap (λ (n : ℕ). filled t b n) (sym (add-one j))
  where
    go : (t b : List ℕ) (j : ℕ) → j < length b → j < length t → set (filled t b j) j (get_or t j 0) ≡ filled t b (suc j)
    go [] b j hb ht = absurd (not-suc-le-zero ht)
    go (x ∷ t) [] j hb ht = absurd (not-suc-le-zero hb)
    go (x ∷ t) (y ∷ b) zero hb ht = refl
    go (x ∷ t) (y ∷ b) (suc j) hb ht = ap (λ (r : List ℕ). x ∷ r) (go t b j (le_of_suc-le-suc hb) (le_of_suc-le-suc ht))

pub filled_get : (t b : List ℕ) (j : ℕ) → j < length b → j ≤ length t → get_or (filled t b j) j 0 ≡ get_or b j 0
filled_get t b zero hb h = refl
filled_get [] b (suc j) hb h = absurd (not-suc-le-zero h)
filled_get (x ∷ t) [] (suc j) hb h = absurd (not-suc-le-zero hb)
filled_get (x ∷ t) (y ∷ b) (suc j) hb h = filled_get t b j (le_of_suc-le-suc hb) (le_of_suc-le-suc h)

pub filled_all : (t b : List ℕ) (n : ℕ) → length t ≤ n → length b ≤ n → filled t b n ≡ t
filled_all t b n ht hb =
    ap (λ (r : List ℕ). take n t ++ r) (drop_of_length-le b hb) ∙ append-nil (take n t) ∙ take_all n t ht

-- a turn of such a loop, and what it reads at j
pub fill_turn : (t b out : List ℕ) (j v : ℕ) → out ≡ filled t b j → length t ≡ length b → j < length b → v ≡ get_or t j 0
    → set out j v ≡ filled t b (j + 1)
fill_turn t b out j v e l h ev =
    ap (λ (o : List ℕ). set o j v) e ∙ ap (set (filled t b j) j) ev ∙ filled_set t b j h (subst (λ (n : ℕ). j < n) (sym l) h)

pub fill_read : (t b out : List ℕ) (j : ℕ) → out ≡ filled t b j → length t ≡ length b → j < length b → get_or out j 0 ≡ get_or b j 0
fill_read t b out j e l h =
    ap (λ (o : List ℕ). get_or o j 0) e ∙ filled_get t b j h (subst (λ (n : ℕ). j ≤ n) (sym l) (le_of_lt h))

pub fill_done : (t b out : List ℕ) (j n : ℕ) → out ≡ filled t b j → length t ≡ n → length b ≡ n → n ≤ j → out ≡ t
fill_done t b out j n e lt lb h = e ∙ filled_all t b j (subst (λ (k : ℕ). k ≤ j) (sym lt) h) (subst (λ (k : ℕ). k ≤ j) (sym lb) h)
