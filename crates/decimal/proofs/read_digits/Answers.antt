-- `decimal::read_digits` meets its contract: after k turns the value is that of the first k digits. A digit that does not fit ends it.
use native.Mathlib.Omega.{arith}
use Rattle.decimal.proofs.Reading.{digits_over, digits_end}
use Rattle.decimal.proofs.read_digits.Goals as goal

pub returns-in_err-checked_mul : goal.returns-in_err-checked_mul
returns-in_err-checked_mul c =
    let over = c.in_err-checked_mul.ensures in
    digits_over _ c.loop-b.b-index _ _ c.loop-b.invariant.1 c.from_residual.ensures (omega arith) (omega arith)

pub returns-in_err-value : goal.returns-in_err-value
returns-in_err-value c =
    let all = c.in_ok-checked_mul.ensures in
    let over = c.in_err-value.ensures in
    digits_over _ c.loop-b.b-index _ _ c.loop-b.invariant.1 c.from_residual-in_err-value.ensures (omega arith) (omega arith)

pub returns : goal.returns
returns c = digits_end _ c.loop-b.b-index _ c.loop-b.invariant.1 (omega arith) (omega arith)
