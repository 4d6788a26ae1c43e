-- A block read from a part of any length, blocks of a list, and blocks in a row.
-- Assumes nothing.
use Rattle.std.specs.Prelude.{List, [], ◌++◌, ℕ, zero, suc, ◌-◌, ◌*◌, length, take, drop, replicate}

-- the first sixteen bytes, filled with zero bytes on the right where there are fewer
unfoldable pub block_of : List ℕ → List ℕ
block_of xs = take 16 xs ++ replicate (16 - length xs) 0

-- block j of a list of bytes, counted from 0
abbrev pub block_at : ℕ → List ℕ → List ℕ
block_at j xs = take 16 (drop (16 * j) xs)

-- what a rule gives at 0, 1, .., n - 1, in a row
unfoldable pub row : (ℕ → List ℕ) → ℕ → List ℕ
row rule zero = []
row rule (suc n) = row rule n ++ rule n
