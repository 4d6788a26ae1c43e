-- `decimal::read_digits` meets its contract: after k turns the value is that of the first k digits. A digit that does not fit ends it.
use mathlib.Core.Path.{◌≡◌}
use Prim.Native.Nat.{◌<◌}
use Rattle.decimal.specs.Decimal.{decimal_value}
use Rattle.decimal.proofs.read_digits.Given as goal

abbrev pub invariant-loop-b : goal.invariant-loop-b
invariant-loop-b l = (l.value < 18446744073709551616) × (l.value ≡ decimal_value l.word l.b-index)
