-- `expansion::constants` meets its contract: each arm is a case of the definition.
use Rattle.std.proofs.Common.{arith}
use Rattle.expansion.specs.KeySchedule.{c1, c2, c3}
use Rattle.expansion.proofs.Keys.{constants_16, constants_24, constants_32}
use Rattle.expansion.proofs.constants.Goals as goal

pub returns-in-16 : goal.returns-in-16
unfolding c1 c2 c3
returns-in-16 c = constants_16 c.args.n c.in-16.is

pub returns-in-24 : goal.returns-in-24
unfolding c1 c2 c3
returns-in-24 c = constants_24 c.args.n c.in-24.is

pub returns-in_default : goal.returns-in_default
unfolding c1 c2 c3
returns-in_default c = constants_32 c.args.n (λ q. omega arith) (λ q. omega arith)
