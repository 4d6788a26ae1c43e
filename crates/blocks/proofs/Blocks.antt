-- Laws of reading a block from a part, and of a block of a list.
-- Assumes nothing.
use mathlib.Core.Path.{◌≡◌, refl, sym, ap, ap₂, ◌∙◌}
use mathlib.Core.List.{List, ◌++◌, append-nil}
use Prim.Native.Nat.{ℕ, suc, ◌+◌, ◌-◌, ◌*◌, ◌≤◌, min}
use native.Mathlib.Omega.{arith}
use lib.ListN.{length, take, drop, replicate, length-append, length-take, length-drop, length-replicate, take-append-drop}
use lib.Seq.{take_all, take_at, take-take, take-append-le, drop_at, drop-drop, length-take-le}
use Rattle.octets.specs.Parts.{overwritten, laid}
use Rattle.octets.proofs.Parts.{overwritten_whole, drop_replicate}
use Rattle.blocks.specs.Blocks.{block_of, block_at}

pub length_block : (xs : List ℕ) → length (block_of xs) ≡ 16
unfolding block_of
length_block xs = simp (length-append, length-take, length-replicate) (omega arith)

-- the block at the front of what starts with a block
pub block_front : (b rest : List ℕ) → length b ≡ 16 → block_of (b ++ rest) ≡ b
unfolding block_of
block_front b rest e =
    let full : 16 - length (b ++ rest) ≡ 0 = simp length-append (omega arith) in
    ap₂ (λ (l : List ℕ) (n : ℕ). l ++ replicate n 0) (take_at b rest 16 e) full ∙ append-nil b

-- sixteen bytes are the block that they are
pub block_whole : (xs : List ℕ) → length xs ≡ 16 → block_of xs ≡ xs
block_whole xs e = ap block_of (sym (append-nil xs)) ∙ block_front xs _ e

-- bytes laid over zeros are the block that they begin
pub block_laid : (xs : List ℕ) → overwritten xs (replicate 16 0) ≡ block_of xs
unfolding overwritten block_of
block_laid xs =
    ap₂ (λ (n : ℕ) (l : List ℕ). take n xs ++ l) (length-replicate {A = ℕ} 16 0) (drop_replicate (length xs) 16)

-- a part of sixteen bytes that is loaded, put through f and stored comes back as its image
pub through : (f : List ℕ → List ℕ) (xs b c ys : List ℕ) → length xs ≡ 16 → length c ≡ 16 → b ≡ block_of xs → c ≡ f b
    → ys ≡ overwritten c xs → ys ≡ f xs
through f xs b c ys lx lc eb ec ey =
    ey ∙ overwritten_whole c xs (lc ∙ sym lx) ∙ ec ∙ ap f (eb ∙ block_whole xs lx)

-- sixteen bytes are enough for a block
pub block_part : (xs : List ℕ) → block_of (take 16 xs) ≡ block_of xs
unfolding block_of
block_part xs =
    let l : length (take 16 xs) ≡ min 16 (length xs) = length-take 16 xs in
    let all : length (take 16 xs) ≤ 16 = omega arith in
    let same : 16 - length (take 16 xs) ≡ 16 - length xs = omega arith in
    ap₂ (λ (u : List ℕ) (n : ℕ). u ++ replicate n 0) (take_all 16 (take 16 xs) all) same

-- bytes laid behind those that a block was read from, where there is room for them
pub block_behind : (xs s : List ℕ) → length xs + length s ≤ 16 → laid (block_of xs) (length xs) s ≡ block_of (xs ++ s)
unfolding laid block_of
block_behind xs s h =
    let short : length xs ≤ 16 = omega arith in
    let zeros : List ℕ = replicate (16 - length xs) 0 in
    let all : length (xs ++ s) ≤ 16 = simp length-append h in
    let left : 16 - length xs - length s ≡ 16 - length (xs ++ s) = simp length-append (omega arith) in
    ap (λ (l : List ℕ). take (length xs) (l ++ zeros) ++ s ++ drop (length xs + length s) (l ++ zeros)) (take_all 16 xs short)
    ∙ ap₂ (λ (u v : List ℕ). u ++ s ++ v) (take_at xs zeros (length xs) refl)
    (sym (drop-drop (length s) (length xs) (xs ++ zeros))
    ∙ ap (drop (length s)) (drop_at xs zeros (length xs) refl)
    ∙ drop_replicate (length s) (16 - length xs)
    ∙ ap (λ (n : ℕ). replicate n 0) left)
    ∙ ap (λ (l : List ℕ). l ++ replicate (16 - length (xs ++ s)) 0) (sym (take_all 16 (xs ++ s) all))

-- a block gives back the bytes that it begins with
pub block_begins : (xs s : List ℕ) → length xs ≤ 16 → take (length xs) (block_of (xs ++ s)) ≡ xs
unfolding block_of
block_begins xs s h =
    let enough : length xs ≤ length (take 16 (xs ++ s)) = simp (length-take, length-append) (omega arith) in
    take-append-le (length xs) (take 16 (xs ++ s)) _ enough
    ∙ take-take (length xs) 16 (xs ++ s) h
    ∙ take_at xs s (length xs) refl

-- ---- block k of a list

pub length_block_at : (k : ℕ) (xs : List ℕ) → 16 * suc k ≤ length xs → length (block_at k xs) ≡ 16
length_block_at k xs h =
    let room : 16 ≤ length (drop (16 * k) xs) = simp length-drop (omega arith) in
    length-take-le 16 (drop (16 * k) xs) room

-- lists that are the same from one place on are so from every later one
pub drop_same : (xs ys : List ℕ) (a b : ℕ) → a ≤ b → drop a xs ≡ drop a ys → drop b xs ≡ drop b ys
drop_same xs ys a b h e =
    let sum : a + (b - a) ≡ b = omega arith in
    let past : (l : List ℕ) → drop (b - a) (drop a l) ≡ drop b l = λ l. drop-drop (b - a) a l ∙ ap (λ (n : ℕ). drop n l) sum in
    sym (past xs) ∙ ap (drop (b - a)) e ∙ past ys

-- lists are equal where they are before block k, in it, and behind it
pub same_around : (k : ℕ) (xs ys : List ℕ) → take (16 * k) xs ≡ take (16 * k) ys → block_at k xs ≡ block_at k ys
    → drop (16 * suc k) xs ≡ drop (16 * suc k) ys → xs ≡ ys
same_around k xs ys before at behind =
    let past : drop (16 * k + 16) xs ≡ drop (16 * k + 16) ys = drop_same xs ys (16 * suc k) (16 * k + 16) (omega arith) behind in
    let rest : drop (16 * k) xs ≡ drop (16 * k) ys =
    sym (take-append-drop 16 (drop (16 * k) xs))
    ∙ ap₂ (λ (u v : List ℕ). u ++ v) at (drop-drop 16 (16 * k) xs ∙ past ∙ sym (drop-drop 16 (16 * k) ys))
    ∙ take-append-drop 16 (drop (16 * k) ys)
    in
    sym (take-append-drop (16 * k) xs) ∙ ap₂ (λ (u v : List ℕ). u ++ v) before rest ∙ take-append-drop (16 * k) ys
