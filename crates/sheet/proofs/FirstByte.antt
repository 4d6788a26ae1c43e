-- Sheets that differ in their first byte alone: the same lines, with the same lengths and cases.
-- Assumes nothing.
use mathlib.Core.Path.{◌≡◌, refl, sym, ap, ap₂, ◌∙◌, fun_ext}
use mathlib.Core.Bool.{not, cond}
use mathlib.Core.List.{List, [], ◌∷◌}
use Prim.Native.Nat.{ℕ, zero, suc, ◌+◌, ◌*◌}
use native.Mathlib.Omega.{arith}
use lib.Dec.{ltb}
use lib.ListN.{take, drop}
use lib.Seq.{drop-drop}
use Rattle.octets.specs.Numbers.{be32}
use Rattle.refusals.specs.Cases.{Case, when, item_by_item}
use Rattle.jobnumber.specs.Number.{digits, order_of}
use Rattle.jobnumber.specs.Ascending.{ascends_in}
use Rattle.sheet.specs.Sheet.{lines, line_at, sizes_on}
use Rattle.sheet.specs.Cases.{line_cases, lines_cases}

-- a line stands after the first byte
line_after : (k : ℕ) (rest : List ℕ) (i : ℕ) → drop (5 + 12 * i) (k ∷ rest) ≡ drop (4 + 12 * i) rest
line_after k rest i =
    let five : 5 + 12 * i ≡ 1 + (4 + 12 * i) = omega arith in
    ap (λ (n : ℕ). drop n (k ∷ rest)) five ∙ sym (drop-drop (4 + 12 * i) 1 (k ∷ rest))

module _ (k m : ℕ) (rest : List ℕ) where
  pub same_lines : line_at (k ∷ rest) ≡ line_at (m ∷ rest)
  unfolding line_at
  same_lines = fun_ext (λ (i : ℕ).
      ap (λ (l : List ℕ). cond (ltb i (lines (k ∷ rest))) (take 12 l) []) (line_after k rest i ∙ sym (line_after m rest i)))

  sizes_alike : (n : ℕ) → sizes_on (k ∷ rest) n ≡ sizes_on (m ∷ rest) n
  unfolding sizes_on
  sizes_alike zero = refl
  sizes_alike (suc n) = ap₂ (λ (s t : ℕ). s + t) (sizes_alike n) (ap (λ (l : ℕ → List ℕ). be32 (l n) 8) same_lines)

  pub same_sizes : sizes_on (k ∷ rest) ≡ sizes_on (m ∷ rest)
  same_sizes = fun_ext sizes_alike

  each_same : line_cases (k ∷ rest) ≡ line_cases (m ∷ rest)
  unfolding line_cases
  each_same = fun_ext (λ (i : ℕ).
      ap (λ (l : ℕ → List ℕ). when (not (digits (l i))) 13 ∷ when (not (ascends_in order_of l i)) 14 ∷ []) same_lines)

  pub same_cases : lines_cases (k ∷ rest) ≡ lines_cases (m ∷ rest)
  unfolding lines_cases
  same_cases =
      let n : ℕ = lines (k ∷ rest) in
      ap (λ (c : ℕ → List Case). when (ltb 64 n) 9 ∷ item_by_item c n) each_same
