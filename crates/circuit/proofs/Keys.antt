-- Round keys as parts of a schedule's bytes.
-- Assumes nothing.
use mathlib.Core.Path.{◌≡◌, sym, ap, ◌∙◌}
use mathlib.Core.List.{List, ◌++◌, append-nil}
use Prim.Native.Nat.{ℕ, ◌+◌, ◌-◌, ◌*◌, ◌≤◌}
use native.Mathlib.Omega.{arith}
use lib.ListN.{length, take, drop, replicate, length-drop, drop_of_length-le}
use lib.Seq.{length-take-le}
use Rattle.blocks.specs.Blocks.{block_of}
use Rattle.blocks.proofs.Blocks.{length_block, block_whole}
use Rattle.circuit.specs.Circuit.{key_at}

pub length_key : (ks : List ℕ) (i : ℕ) → length (key_at ks i) ≡ 16
unfolding key_at
length_key ks i = length_block (drop (16 * i) ks)

-- a round key as a part of sixteen bytes, read as a block
pub part_key : (ks : List ℕ) (i w : ℕ) → w ≡ 16 → 16 * i + 16 ≤ length ks → block_of (take w (drop (16 * i) ks)) ≡ key_at ks i
unfolding key_at block_of
part_key ks i w e h =
    let l : length (take 16 (drop (16 * i) ks)) ≡ 16 = length-take-le 16 (drop (16 * i) ks) (simp length-drop (omega arith)) in
    let none : 16 - length (drop (16 * i) ks) ≡ 0 = simp length-drop (omega arith) in
    ap (λ (k : ℕ). block_of (take k (drop (16 * i) ks))) e
    ∙ block_whole (take 16 (drop (16 * i) ks)) l
    ∙ sym (ap (λ (k : ℕ). take 16 (drop (16 * i) ks) ++ replicate k 0) none ∙ append-nil (take 16 (drop (16 * i) ks)))

-- past the last key there are zeros
pub no_key : (ks : List ℕ) (i : ℕ) → length ks ≤ 16 * i → key_at ks i ≡ replicate 16 0
unfolding key_at block_of
no_key ks i h = ap block_of (drop_of_length-le ks h)
