-- Job numbers (01, The dryer archive): eight ASCII digits, at the front of a list of bytes, and their order (02, e). A byte that is missing
-- reads as 0.
-- Assumes nothing.
use Rattle.std.specs.Prelude.{Bool, cond, ◌&&◌, List, ℕ, ◌+◌, ◌*◌, ltb, eqb, length, drop}
use Rattle.decimal.specs.Decimal.{all_digits, decimal_value}

-- the first eight bytes are digits
unfoldable pub digits : List ℕ → Bool
digits s = all_digits s 8

-- exactly eight bytes, all digits: what may be asked for
unfoldable pub is_job_number : List ℕ → Bool
is_job_number s = eqb (length s) 8 && digits s

-- the number that eight digits are
abbrev pub job_number : List ℕ → ℕ
job_number s = decimal_value s 8

-- ---- the order of job numbers (02, e)

-- the first two of the four digits of the year
unfoldable pub century_of : List ℕ → ℕ
century_of s = cond (ltb (decimal_value s 2) 70) 20 19

-- the year that the first two digits are: "70 to 99 as 1970 to 1999 and 00 to 69 as 2000 to 2069"
abbrev pub year_of : List ℕ → ℕ
year_of s = century_of s * 100 + decimal_value s 2

-- the number that the other six digits are, the job's within its year
unfoldable pub serial_of : List ℕ → ℕ
serial_of s = decimal_value (drop 2 s) 6

-- the place of a job number in the order of the entries: by year, and "within a year the other six digits ascend". Written in digits it is
-- the four of the year and then the other six
unfoldable pub order_of : List ℕ → ℕ
order_of s = year_of s * 1000000 + serial_of s
