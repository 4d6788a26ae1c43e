-- What was read of a long sheet, cut to what is handed on, is the cut sheet.
-- Assumes nothing.
use mathlib.Core.Path.{◌≡◌, refl, sym, ap, ◌∙◌}
use mathlib.Core.Bool.{Bool, true, false}
use mathlib.Core.List.{List}
use Prim.Native.Nat.{ℕ, ◌+◌, ◌-◌, ◌%◌, ◌<◌, ◌≤◌}
use native.Mathlib.Omega.{arith}
use borrow.Author.Tests.{lt-ltb, le-ltb, ltb-true, ltb-false}
use lib.Dec.{ltb}
use lib.ListN.{length, take}
use lib.Seq.{take_all, take-take, length-take-le}
use Rattle.sheet.specs.Long.{cut_sheet, handed_on, HandedOn}

handed_short : (n beyond : ℕ) → n < 796 → handed_on n beyond ≡ n
unfolding handed_on
handed_short n beyond l = rw (lt-ltb n 796 l)

handed_long : (n beyond : ℕ) → 796 ≤ n → handed_on n beyond ≡ 785 + (11 + beyond % 12) % 12
unfolding handed_on
handed_long n beyond l = rw (le-ltb n 796 l)

pub cut_long : (sheet : List ℕ) → 785 < length sheet → cut_sheet sheet ≡ take (785 + (length sheet - 5) % 12) sheet
unfolding cut_sheet
cut_long sheet l = rw (lt-ltb 785 (length sheet) l)

pub cut_short : (sheet : List ℕ) → length sheet ≤ 785 → cut_sheet sheet ≡ sheet
unfolding cut_sheet
cut_short sheet l = rw (le-ltb 785 (length sheet) l)

-- a sheet that was read whole is handed on whole
whole : (sheet : List ℕ) → length sheet < 796 → sheet ≡ cut_sheet sheet
whole sheet l = go (ltb 785 (length sheet)) refl
  where
    go : (b : Bool) → ltb 785 (length sheet) ≡ b → sheet ≡ cut_sheet sheet
    go true e =
        let m : 785 < length sheet = ltb-true _ _ e in
        let all : length sheet ≤ 785 + (length sheet - 5) % 12 = omega arith in
        sym (cut_long sheet m ∙ take_all _ sheet all)
    go false e = sym (cut_short sheet (ltb-false _ _ e))

module _ (sheet : List ℕ) where
  abbrev beyond : ℕ
  beyond = (length sheet - 796) % 12

  short : length sheet < 796 → take (handed_on (length (take 796 sheet)) beyond) (take 796 sheet) ≡ cut_sheet sheet
  short l =
      let all : take 796 sheet ≡ sheet = take_all 796 sheet (omega arith) in
      ap (λ (s : List ℕ). take (handed_on (length s) beyond) s) all
      ∙ ap (λ (n : ℕ). take n sheet) (handed_short (length sheet) beyond l)
      ∙ take_all (length sheet) sheet (omega arith)
      ∙ whole sheet l

  long : 796 ≤ length sheet → take (handed_on (length (take 796 sheet)) beyond) (take 796 sheet) ≡ cut_sheet sheet
  long l =
      let size : 796 ≤ length (take 796 sheet) = omega (arith, length-take-le 796 sheet l) in
      let n : 785 + (11 + beyond % 12) % 12 ≡ 785 + (length sheet - 5) % 12 = omega arith in
      let most : 785 + (length sheet - 5) % 12 ≤ 796 = omega arith in
      ap (λ (k : ℕ). take k (take 796 sheet)) (handed_long (length (take 796 sheet)) beyond size ∙ n)
      ∙ take-take (785 + (length sheet - 5) % 12) 796 sheet most
      ∙ sym (cut_long sheet (omega arith))

pub handed_on_lem : HandedOn
handed_on_lem sheet = go (ltb (length sheet) 796) refl
  where
    go : (b : Bool) → ltb (length sheet) 796 ≡ b
        → take (handed_on (length (take 796 sheet)) ((length sheet - 796) % 12)) (take 796 sheet) ≡ cut_sheet sheet
    go true e = short sheet (ltb-true _ _ e)
    go false e = long sheet (ltb-false _ _ e)

-- no more than was read
pub handed_most : (n beyond : ℕ) → handed_on n beyond ≤ 796
handed_most n beyond = go (ltb n 796) refl
  where
    go : (b : Bool) → ltb n 796 ≡ b → handed_on n beyond ≤ 796
    go true e = omega (arith, handed_short n beyond (ltb-true _ _ e), ltb-true n 796 e)
    go false e = omega (arith, handed_long n beyond (ltb-false _ _ e))
