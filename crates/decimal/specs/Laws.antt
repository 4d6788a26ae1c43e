-- What is claimed of numbers in decimal: the digits that a number is written in have its value, and are read back where it fits 64 bits.
-- The theorem is `decimal_reads` of proofs/Laws.
-- Assumes nothing.
use Rattle.std.specs.Prelude.{◌≡◌, true, ℕ, ◌<◌}
use Rattle.decimal.specs.Decimal.{decimal_digits}
use Rattle.decimal.specs.Word.{value_of, is_decimal}

pub record DecimalRead (n : ℕ) : Type 0 where
  pub value : value_of (decimal_digits n) ≡ n
  pub taken : n < 18446744073709551616 → is_decimal (decimal_digits n) ≡ true

abbrev pub DecimalReads : Type 0
DecimalReads = (n : ℕ) → DecimalRead n
