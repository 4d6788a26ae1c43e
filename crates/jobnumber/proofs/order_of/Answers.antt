-- `jobnumber::order_of` meets its contract: the year's first two digits and then all eight are the year's four and then the other six.
use mathlib.Core.Path.{sym, ap₂, ◌∙◌}
use Prim.Native.Nat.{ℕ, ◌+◌, ◌*◌}
use Rattle.jobnumber.proofs.Order.{order_century}
use Rattle.jobnumber.proofs.order_of.Goals as goal

pub returns : goal.returns
returns c = ap₂ (λ (m n : ℕ). m * 100000000 + n) c.century_of-century.ensures.0 c.job_number-number.ensures.0 ∙ sym (order_century _)
