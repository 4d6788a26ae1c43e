-- What the words of `open` ask for of a job, by the numbers that opening takes.
-- Assumes nothing.
use Rattle.std.specs.Prelude.{ℕ}
use Rattle.open.specs.declared.Asked.{Asked}
use Rattle.open.specs.declared.Asked.TheVariants.{Whole, Range}

-- the first byte
abbrev pub first_in : Asked → ℕ
first_in Whole = 0
first_in (Range first count) = first

-- how many bytes, of a job that has `size`
abbrev pub count_in : ℕ → Asked → ℕ
count_in size Whole = size
count_in size (Range first count) = count
