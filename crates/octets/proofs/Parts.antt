-- Laws of parts, and of bytes laid over the front of a buffer.
-- Assumes nothing.
use mathlib.Core.Path.{◌≡◌, refl, sym, ap, ap₂, ◌∙◌}
use mathlib.Core.List.{List, [], ◌∷◌, ◌++◌, append-nil}
use Prim.Native.Nat.{ℕ, zero, suc, ◌+◌, ◌-◌, ◌≤◌, min}
use native.Mathlib.Nat.{sub-zero, zero-sub, suc-sub-suc}
use native.Mathlib.Omega.{arith}
use lib.ListN.{length, take, drop, replicate, length-drop, drop_of_length-le}
use lib.Seq.{take_all, take-nil, take-take}
use Rattle.std.proofs.lemmas.Grind.{common_steps}
use Rattle.octets.specs.Parts.{overwritten}
use Rattle.octets.proofs.Fill.{filled}

-- ---- parts

-- past the end there are no bytes
pub part_past : (s : List ℕ) (from n : ℕ) → length s ≤ from → take (length s - length s) (drop (length s) s) ≡ take n (drop from s)
part_past s from n h =
    let none : length s - length s ≡ 0 = omega arith in
    ap (λ (k : ℕ). take k (drop (length s) s)) none ∙ sym (take-nil n) ∙ ap (take n) (sym (drop_of_length-le s h))

-- what is there is all
pub part_cut : (s : List ℕ) (from n : ℕ) → length s - from ≤ n → take (length s - from) (drop from s) ≡ take n (drop from s)
part_cut s from n h =
    let all : length (drop from s) ≤ length s - from = simp length-drop (omega arith) in
    let more : length (drop from s) ≤ n = simp length-drop h in
    take_all (length s - from) (drop from s) all ∙ sym (take_all n (drop from s) more)

-- a part that ends within the first n bytes is one of these
pub part_front : (s : List ℕ) (from m n : ℕ) → from + m ≤ n → take m (drop from (take n s)) ≡ take m (drop from s)
part_front s zero m n h = take-take m n s (omega arith)
part_front s (suc from) m zero h = absurd (omega arith)
part_front [] (suc from) m (suc n) h = refl
part_front (x ∷ s) (suc from) m (suc n) h = part_front s from m n (omega arith)

-- byte strings that begin with the same n bytes have the same parts within these
pub part_same : (s t : List ℕ) (from m n : ℕ) → from + m ≤ n → take n s ≡ take n t → take m (drop from s) ≡ take m (drop from t)
part_same s t from m n h e =
    sym (part_front s from m n h) ∙ ap (λ (f : List ℕ). take m (drop from f)) e ∙ part_front t from m n h

-- ---- bytes laid over the front

-- over as many bytes, s takes their place
pub overwritten_whole : (s xs : List ℕ) → length s ≡ length xs → overwritten s xs ≡ s
unfolding overwritten
overwritten_whole s xs e =
    let front : length s ≤ length xs = omega arith in
    let rest : length xs ≤ length s = omega arith in
    ap₂ (λ (u v : List ℕ). u ++ v) (take_all (length xs) s front) (drop_of_length-le xs rest) ∙ append-nil s

-- where there is room for s, it stands at the front
pub overwritten_front : (s xs : List ℕ) → length s ≤ length xs → overwritten s xs ≡ s ++ drop (length s) xs
unfolding overwritten
overwritten_front s xs h = ap (λ (l : List ℕ). l ++ drop (length s) xs) (take_all (length xs) s h)

-- over no more bytes than s has, its front takes their place
pub overwritten_cut : (s xs : List ℕ) → length xs ≤ length s → overwritten s xs ≡ take (length xs) s
unfolding overwritten
overwritten_cut s xs h = ap (λ (l : List ℕ). take (length xs) s ++ l) (drop_of_length-le xs h) ∙ append-nil (take (length xs) s)

-- ---- where a copy of byte after byte ends: with the bytes, or with the buffer

pub copied_all : (s xs out : List ℕ) (j : ℕ) → out ≡ filled s xs j → j ≡ length s → j ≤ length xs → out ≡ overwritten s xs
copied_all s xs out j e f h =
    let all : length s ≤ j = omega arith in
    let fits : length s ≤ length xs = omega arith in
    e
    ∙ ap₂ (λ (l : List ℕ) (n : ℕ). l ++ drop n xs) (take_all j s all) f
    ∙ sym (overwritten_front s xs fits)

pub copied_full : (s xs out : List ℕ) (j : ℕ) → out ≡ filled s xs j → j ≡ length xs → j ≤ length s → out ≡ overwritten s xs
unfolding overwritten
copied_full s xs out j e f h =
    let end : length xs ≤ j = omega arith in
    let past : length xs ≤ length s = omega arith in
    e
    ∙ ap₂ (λ (u v : List ℕ). u ++ v) (ap (λ (n : ℕ). take n s) f) (drop_of_length-le xs end ∙ sym (drop_of_length-le xs past))

-- as many bytes as both have are copied
pub overwritten_upto : (s xs : List ℕ) (n : ℕ) → n ≡ min (length s) (length xs) → take n s ++ drop n xs ≡ overwritten s xs
unfolding overwritten
overwritten_upto s xs n e = grind (arith, common_steps)

-- ---- zeros

pub drop_replicate : (a n : ℕ) → drop {A = ℕ} a (replicate n 0) ≡ replicate (n - a) 0
drop_replicate zero n = ap (λ (k : ℕ). replicate k 0) (sym (sub-zero n))
drop_replicate (suc a) zero = ap (λ (k : ℕ). replicate k 0) (sym (zero-sub (suc a)))
drop_replicate (suc a) (suc n) = drop_replicate a n ∙ ap (λ (k : ℕ). replicate k 0) (sym (suc-sub-suc n a))
