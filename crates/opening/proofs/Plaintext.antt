-- The prefix of the counter blocks.
-- Assumes nothing.
use mathlib.Core.Path.{◌≡◌, ap, ap₂, ◌∙◌}
use mathlib.Core.List.{List, ◌++◌, append-nil}
use Prim.Native.Nat.{ℕ, ◌≤◌}
use native.Mathlib.Omega.{arith}
use lib.ListN.{length, take, drop, drop_of_length-le}
use lib.Seq.{take_at, drop_at}
use Rattle.opening.specs.Open.{prefix_of}

-- the archive number at the front of twelve bytes, and the job number behind it, fill them
pub prefix_made : (archive number xs ys rest : List ℕ) → length archive ≡ 4 → length rest ≡ 8 → xs ≡ archive → ys ≡ number
    → take 4 (xs ++ rest) ++ (ys ++ drop 8 (drop 4 (xs ++ rest))) ≡ prefix_of archive number
unfolding prefix_of
prefix_made archive number xs ys rest ea er ex ey =
    let front : length xs ≡ 4 = ap length ex ∙ ea in
    let past : length rest ≤ 8 = omega arith in
    ap₂ (λ (u v : List ℕ). u ++ (ys ++ drop 8 v)) (take_at xs rest 4 front) (drop_at xs rest 4 front)
    ∙ ap (λ (u : List ℕ). xs ++ (ys ++ u)) (drop_of_length-le rest past)
    ∙ ap (λ (u : List ℕ). xs ++ u) (append-nil ys)
    ∙ ap₂ (λ (u v : List ℕ). u ++ v) ex ey
