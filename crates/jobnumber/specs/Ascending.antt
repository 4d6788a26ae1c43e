-- Rows that bear job numbers, each above the one before it (01, case 14), over any order of job numbers and any rows: the entries of a
-- directory and the lines of a sheet are both such rows.
-- Assumes nothing.
use Rattle.std.specs.Prelude.{Bool, ◌||◌, List, ℕ, ◌-◌, ltb, eqb}

-- row i's job number is above that of the row before it, if there is one
unfoldable pub ascends_in : (List ℕ → ℕ) → (ℕ → List ℕ) → ℕ → Bool
ascends_in order row i = eqb i 0 || ltb (order (row (i - 1))) (order (row i))
