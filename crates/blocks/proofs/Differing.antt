-- The comparison of two blocks without an early end: what it gathers is 0 exactly where the bytes are equal.
-- Assumes nothing.
use mathlib.Core.Path.{◌≡◌, refl, sym, ap, ap₂, ◌∙◌}
use mathlib.Core.Bool.{Bool, true, false}
use mathlib.Core.List.{List, [], ◌∷◌}
use Prim.Native.Nat.{ℕ, zero, suc, ◌+◌, ◌*◌, ◌/◌, ◌%◌, ◌<◌, max}
use native.Mathlib.Nat.{suc_inj, suc-ne-zero}
use native.Mathlib.Numerals.{add-one}
use native.Mathlib.Omega.{arith}
use borrow.Author.Count.{below_more}
use borrow.Author.Tests.{eqb-true, eqb-false}
use lib.Arith.{bin_ind}
use lib.Bits.{bit_or, bit_xor, or_step, or_comm, xor_self}
use lib.Dec.{eqb}
use lib.ListN.{length, get_or}
use lib.Seq.{ext_get_or}
use Rattle.std.specs.List.{fold, zip}
use Rattle.octets.specs.Equality.{same_bytes}
use Rattle.octets.proofs.Equality.{eq_same, ne_same}
use Rattle.blocks.proofs.XorLaws.{xor_zero_eq}

-- neither of two numbers has a digit where their or has none
or_none : (a b : ℕ) → bit_or a b ≡ 0 → a ≡ 0
or_none =
    bin_ind (λ (n : ℕ). (b : ℕ) → bit_or n b ≡ 0 → n ≡ 0) (λ b e. refl)
    (λ n ih b e.
    let sum : bit_or (n / 2) (b / 2) * 2 + max (n % 2) (b % 2) ≡ 0 = sym (or_step n b) ∙ e in
    let half : n / 2 ≡ 0 = ih (b / 2) (omega arith) in
    omega arith)

-- what is gathered of the pairs, over what has been gathered before
abbrev pub gathered : List ℕ → List ℕ → ℕ → ℕ
gathered a b d = fold (λ (d : ℕ) (p : ℕ × ℕ). bit_or d (bit_xor p.0 p.1)) d (zip a b)

none_before : (a b : List ℕ) (d : ℕ) → gathered a b d ≡ 0 → d ≡ 0
none_before [] b d e = e
none_before (x ∷ a) [] d e = e
none_before (x ∷ a) (y ∷ b) d e = or_none d (bit_xor x y) (none_before a b (bit_or d (bit_xor x y)) e)

none_differs : (a b : List ℕ) (d : ℕ) → length a ≡ length b → gathered a b d ≡ 0 → a ≡ b
none_differs [] [] d l e = refl
none_differs [] (y ∷ b) d l e = absurd (suc-ne-zero (length b) (sym l))
none_differs (x ∷ a) [] d l e = absurd (suc-ne-zero (length a) l)
none_differs (x ∷ a) (y ∷ b) d l e =
    let both : bit_or d (bit_xor x y) ≡ 0 = none_before a b (bit_or d (bit_xor x y)) e in
    let here : bit_xor x y ≡ 0 = or_none (bit_xor x y) d (or_comm (bit_xor x y) d ∙ both) in
    ap₂ (λ (z : ℕ) (l : List ℕ). z ∷ l) (xor_zero_eq x y here) (none_differs a b (bit_or d (bit_xor x y)) (suc_inj l) e)

self_differs : (a : List ℕ) → gathered a a 0 ≡ 0
self_differs [] = refl
self_differs (x ∷ a) = ap (λ (d : ℕ). gathered a a (bit_or 0 d)) (xor_self x) ∙ self_differs a

-- what has been gathered of all pairs tells whether the blocks are equal
pub difference_same : (a b : List ℕ) (d : ℕ) → length a ≡ length b → d ≡ gathered a b 0 → eqb d 0 ≡ same_bytes a b
difference_same a b d l e = by_case (eqb d 0) refl
  where
    by_case : (t : Bool) → eqb d 0 ≡ t → eqb d 0 ≡ same_bytes a b
    by_case true p = p ∙ sym (eq_same a b (none_differs a b 0 l (sym e ∙ eqb-true d 0 p)))
    by_case false p = p ∙ sym (ne_same a b (λ q. eqb-false d 0 p (e ∙ ap (λ (x : List ℕ). gathered a x 0) (sym q) ∙ self_differs a)))

-- ---- place by place

-- what has been gathered of the first i pairs
unfoldable pub differing : List ℕ → List ℕ → ℕ → ℕ
differing a b zero = 0
differing a b (suc i) = bit_or (differing a b i) (bit_xor (get_or a i 0) (get_or b i 0))

pub differing_turn : (a b : List ℕ) (i d : ℕ) → d ≡ differing a b i
    → bit_or d (bit_xor (get_or a i 0) (get_or b i 0)) ≡ differing a b (i + 1)
unfolding differing
differing_turn a b i d e = ap (λ (x : ℕ). bit_or x (bit_xor (get_or a i 0) (get_or b i 0))) e ∙ ap (differing a b) (sym (add-one i))

none_differs_at : (a b : List ℕ) (i : ℕ) → differing a b i ≡ 0 → (k : ℕ) → k < i → get_or a k 0 ≡ get_or b k 0
unfolding differing
none_differs_at a b zero e k l = absurd (omega arith)
none_differs_at a b (suc i) e k l =
    let seen : differing a b i ≡ 0 = or_none (differing a b i) (bit_xor (get_or a i 0) (get_or b i 0)) e in
    let last : bit_xor (get_or a i 0) (get_or b i 0) ≡ 0 =
    or_none (bit_xor (get_or a i 0) (get_or b i 0)) (differing a b i) (or_comm (bit_xor (get_or a i 0) (get_or b i 0)) (differing a b i)
    ∙ e)
    in
    below_more _ _ (none_differs_at a b i seen) (xor_zero_eq (get_or a i 0) (get_or b i 0) last) k (rw add-one l)

self_differs_at : (a : List ℕ) (i : ℕ) → differing a a i ≡ 0
unfolding differing
self_differs_at a zero = refl
self_differs_at a (suc i) = ap₂ bit_or (self_differs_at a i) (xor_self (get_or a i 0))

-- what has been gathered of all pairs tells whether the blocks are equal
pub differing_same : (a b : List ℕ) (n d : ℕ) → length a ≡ n → length b ≡ n → d ≡ differing a b n → eqb d 0 ≡ same_bytes a b
differing_same a b n d la lb e = by_case (eqb d 0) refl
  where
    by_case : (t : Bool) → eqb d 0 ≡ t → eqb d 0 ≡ same_bytes a b
    by_case true p =
        let none : differing a b n ≡ 0 = sym e ∙ eqb-true d 0 p in
        p ∙ sym (eq_same a b (ext_get_or 0 a b (la ∙ sym lb) (λ k l. none_differs_at a b n none k (omega arith))))
    by_case false p =
        p ∙ sym (ne_same a b (λ q. eqb-false d 0 p (e ∙ ap (λ (x : List ℕ). differing a x n) (sym q) ∙ self_differs_at a n)))
