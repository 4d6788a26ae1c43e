-- Laws of a row, over any rule whose parts are of one length: how long it is, where each part stands; of blocks, a turn of a loop that
-- makes it.
-- Assumes nothing.
use mathlib.Core.Path.{◌≡◌, refl, sym, ap, ap₂, ◌∙◌}
use mathlib.Core.List.{List, ◌++◌, append_assoc}
use mathlib.Core.Logic.{⊎_elim}
use Prim.Native.Nat.{ℕ, zero, suc, ◌+◌, ◌*◌, ◌<◌}
use native.Mathlib.Nat.{eq-or-lt_of_le, le_of_suc-le-suc, mul-zero, mul-suc}
use native.Mathlib.Numerals.{add-one}
use native.Mathlib.Omega.{arith}
use lib.ListN.{length, take, drop, length-append}
use lib.Seq.{take_at, drop_at}
use Rattle.blocks.specs.Blocks.{block_at, row}

module _ (rule : ℕ → List ℕ) where
  -- ---- parts of any width w

  pub length_parts : (w n : ℕ) → ((i : ℕ) → i < n → length (rule i) ≡ w) → length (row rule n) ≡ w * n
  unfolding row
  length_parts w zero h = sym (mul-zero w)
  length_parts w (suc n) h =
      length-append (row rule n) (rule n)
      ∙ ap₂ (λ (a b : ℕ). a + b) (length_parts w n (λ i l. h i (omega arith))) (h n (omega arith))
      ∙ sym (mul-suc w n)

  -- part j of a row, whatever follows the row
  pub part_at : (w n j : ℕ) (rest : List ℕ) → ((i : ℕ) → i < n → length (rule i) ≡ w) → j < n
      → take w (drop (w * j) (row rule n ++ rest)) ≡ rule j
  unfolding row
  part_at w zero j rest h l = absurd (omega arith)
  part_at w (suc n) j rest h l =
      ap (λ (x : List ℕ). take w (drop (w * j) x)) (append_assoc (row rule n) (rule n) rest)
      ∙ ⊎_elim here (part_at w n j (rule n ++ rest) (λ i k. h i (omega arith))) (eq-or-lt_of_le (le_of_suc-le-suc l))
    where
      size : length (row rule n) ≡ w * n
      size = length_parts w n (λ i m. h i (omega arith))

      here : j ≡ n → take w (drop (w * j) (row rule n ++ (rule n ++ rest))) ≡ rule j
      here e =
          let seam : length (row rule n) ≡ w * j = size ∙ ap (λ (m : ℕ). w * m) (sym e) in
          ap (take w) (drop_at (row rule n) (rule n ++ rest) (w * j) seam)
          ∙ take_at (rule n) rest w (h n (omega arith))
          ∙ ap rule (sym e)

  -- ---- blocks

  pub length_row : (n : ℕ) → ((i : ℕ) → i < n → length (rule i) ≡ 16) → length (row rule n) ≡ 16 * n
  length_row = length_parts 16

  pub row_at : (n j : ℕ) (rest : List ℕ) → ((i : ℕ) → i < n → length (rule i) ≡ 16) → j < n → block_at j (row rule n ++ rest) ≡ rule j
  row_at = part_at 16

  -- a turn of a loop that makes the row over a buffer of which z is left: the part of sixteen bytes at block i comes back as that block.
  -- The code says the part's length as k
  pub row_turn : (i k : ℕ) (out ys z : List ℕ) → k ≡ 16 → ((j : ℕ) → j < i → length (rule j) ≡ 16) → out ≡ row rule i ++ z → ys ≡ rule i
      → take (16 * i) out ++ (ys ++ drop k (drop (16 * i) out)) ≡ row rule (i + 1) ++ drop 16 z
  unfolding row
  row_turn i k out ys z ek h e ey =
      let size : length (row rule i) ≡ 16 * i = length_row i h in
      let front : take (16 * i) out ≡ row rule i = ap (take (16 * i)) e ∙ take_at (row rule i) z (16 * i) size in
      let rest : drop k (drop (16 * i) out) ≡ drop 16 z =
      ap₂ (λ (n : ℕ) (l : List ℕ). drop n l) ek (ap (drop (16 * i)) e ∙ drop_at (row rule i) z (16 * i) size)
      in
      ap₂ (λ (u v : List ℕ). u ++ v) front (ap₂ (λ (u v : List ℕ). u ++ v) ey rest)
      ∙ sym (append_assoc (row rule i) (rule i) (drop 16 z))
      ∙ ap (λ (n : ℕ). row rule n ++ drop 16 z) (sym (add-one i))

-- rules that agree below n make the same row
pub row_same : (f g : ℕ → List ℕ) (n : ℕ) → ((i : ℕ) → i < n → f i ≡ g i) → row f n ≡ row g n
unfolding row
row_same f g zero h = refl
row_same f g (suc n) h = ap₂ (λ (a b : List ℕ). a ++ b) (row_same f g n (λ i l. h i (omega arith))) (h n (omega arith))
