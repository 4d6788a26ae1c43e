-- `Display` of a byte writes its two digits.
use Rattle.std.proofs.Common.{arith, rules}
use Rattle.std.proofs.lemmas.Grind.{common_steps}
use Rattle.hexbytes.specs.Text.{digits}
use Rattle.hexbytes.proofs.DigitsDisplay.fmt.Goals as goal

pub returns-clause-writes : goal.returns-clause-writes
unfolding digits
returns-clause-writes g c = first_of (search rules, grind (arith, common_steps))
