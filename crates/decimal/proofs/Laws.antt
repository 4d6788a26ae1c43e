-- A number is read back from the digits that it is written in.
-- Assumes nothing.
use mathlib.Core.Path.{◌≡◌}
use mathlib.Core.Bool.{true}
use Prim.Native.Nat.{ℕ, ◌≤◌, ◌<◌}
use native.Mathlib.Omega.{arith}
use borrow.Author.Tests.{le-leb, lt-ltb}
use lib.ListN.{length}
use Rattle.decimal.specs.Decimal.{decimal_digits}
use Rattle.decimal.specs.Word.{is_decimal}
use Rattle.decimal.specs.Laws.{DecimalReads}
use Rattle.decimal.proofs.Digits.{some_digit, length_decimal, decimal_value_lem, decimal_digits_lem}

taken : (n : ℕ) → n < 18446744073709551616 → is_decimal (decimal_digits n) ≡ true
unfolding is_decimal
taken n l =
    let some : 1 ≤ length (decimal_digits n) = some_digit n in
    let few : length (decimal_digits n) ≤ 20 = length_decimal 19 n (omega arith) in
    rw (
      le-leb 1 (length (decimal_digits n)) some,
      le-leb (length (decimal_digits n)) 20 few,
      decimal_digits_lem n,
      decimal_value_lem n,
    ) (lt-ltb n _ l)

pub decimal_reads : DecimalReads
decimal_reads n = record { value = decimal_value_lem n; taken = taken n }
