-- What the order of job numbers is on eight digits (02, e: "The first two digits of a job number are the year"). The theorems are `by_year`
-- and `spans` of proofs/Order.
-- Assumes nothing.
use Rattle.std.specs.Prelude.{◌≡◌, true, ◌&&◌, ◌||◌, List, ℕ, ◌+◌, ◌*◌, ◌<◌, ◌≤◌, ltb, eqb}
use Rattle.decimal.specs.Decimal.{decimal_value}
use Rattle.jobnumber.specs.Number.{digits, job_number, year_of, serial_of, order_of}

-- a job number is below another where its year is, or where the years are the same and its other six digits are below
abbrev pub ByYear : Type 0
ByYear = (s t : List ℕ) → digits s ≡ true → digits t ≡ true
    → ltb (order_of s) (order_of t) ≡ (ltb (year_of s) (year_of t) || (eqb (year_of s) (year_of t) && ltb (serial_of s) (serial_of t)))

-- the parts of a job number, two digits and the other six, and the two spans of years: 70000000 and above are of 1970 to 1999, those below
-- are of 2000 to 2069. Within a span the order is that of the plain numbers
pub record Spanned (s : List ℕ) : Type 0 where
  pub parts : job_number s ≡ decimal_value s 2 * 1000000 + serial_of s
  pub two : decimal_value s 2 ≤ 99
  pub six : serial_of s ≤ 999999
  pub old : 70000000 ≤ job_number s
      → (70 ≤ decimal_value s 2) × (year_of s ≡ 1900 + decimal_value s 2) × (order_of s ≡ 1900000000 + job_number s)
  pub recent : job_number s < 70000000
      → (decimal_value s 2 ≤ 69) × (year_of s ≡ 2000 + decimal_value s 2) × (order_of s ≡ 2000000000 + job_number s)

abbrev pub Spans : Type 0
Spans = (s : List ℕ) → digits s ≡ true → Spanned s
