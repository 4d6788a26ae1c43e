-- The code's steps and the subkey rule: the shift byte by byte, and what is added without a branch.
-- Assumes nothing.
use mathlib.Core.Path.{◌≡◌, refl, sym, ap, ap₂, ◌∙◌}
use mathlib.Core.Bool.{Bool, true, false, cond}
use mathlib.Core.List.{List, [], ◌∷◌}
use Prim.Native.Nat.{ℕ, zero, suc, ◌+◌, ◌*◌, ◌/◌, ◌%◌, ◌<◌}
use native.Mathlib.Nat.{le_of_suc-le-suc, not-suc-le-zero}
use native.Mathlib.Numerals.{add-one}
use native.Mathlib.Omega.{arith}
use borrow.Author.Tests.{ltb-true, ltb-false}
use lib.Dec.{ltb}
use lib.ListN.{length, get_or, set}
use Rattle.blocks.specs.Xor.{xor_block}
use Rattle.blocks.specs.Chains.{zero_block}
use Rattle.blocks.proofs.XorBlock.{xor_zeros}
use Rattle.subkeys.specs.Subkeys.{shifted_left, r128, doubled}

pub length_shifted : (b : List ℕ) → length (shifted_left b) ≡ length b
unfolding shifted_left
length_shifted [] = refl
length_shifted (x ∷ b) = ap suc (length_shifted b)

pub shifted_at : (b : List ℕ) (i : ℕ) → i < length b → get_or (shifted_left b) i 0 ≡ get_or b i 0 * 2 % 256 + get_or b (i + 1) 0 / 128
unfolding shifted_left
shifted_at b i h = go b i h ∙ ap (λ (n : ℕ). get_or b i 0 * 2 % 256 + get_or b n 0 / 128) (sym (add-one i))
  where
    go : (b : List ℕ) (i : ℕ) → i < length b → get_or (shifted_left b) i 0 ≡ get_or b i 0 * 2 % 256 + get_or b (suc i) 0 / 128
    go [] i h = absurd (not-suc-le-zero h)
    go (x ∷ b) zero h = refl
    go (x ∷ b) (suc i) h = go b i (le_of_suc-le-suc h)

-- the top bit of a byte, times the constant, in the last place of zero bytes
pub reduction_law : (x : ℕ) → x < 256 → set zero_block 15 (x / 128 * 0x87) ≡ cond (ltb x 128) zero_block r128
unfolding r128
reduction_law x h = by_case (ltb x 128) refl
  where
    by_case : (t : Bool) → ltb x 128 ≡ t → set zero_block 15 (x / 128 * 0x87) ≡ cond t zero_block r128
    by_case true p =
        let low = ltb-true x 128 p in
        let none : x / 128 * 0x87 ≡ 0 = omega arith in
        ap (set zero_block 15) none
    by_case false p =
        let high = ltb-false x 128 p in
        let all : x / 128 * 0x87 ≡ 0x87 = omega arith in
        ap (set zero_block 15) all

pub double_law : (b s t r : List ℕ) → s ≡ shifted_left b → t ≡ cond (ltb (get_or b 0 0) 128) zero_block r128 → r ≡ xor_block s t
    → r ≡ doubled b
unfolding doubled
double_law b s t r es et er = er ∙ ap₂ xor_block es et ∙ by_case (ltb (get_or b 0 0) 128)
  where
    by_case : (t : Bool) → xor_block (shifted_left b) (cond t zero_block r128) ≡ cond t (shifted_left b) (xor_block (shifted_left b) r128)
    by_case true = xor_zeros (shifted_left b) 16
    by_case false = refl
