-- `jobnumber::job_number` meets its contract: four pairs of digits are eight digits. The equations are named, so that a wrong program is
-- refused by the one that does not hold.
use Rattle.jobnumber.proofs.Order.{pairs, pairs_most}
use Rattle.jobnumber.proofs.job_number.Goals as goal

pub returns : goal.returns
returns c =
    let one = c.pair-a.ensures in
    let two = c.pair-b.ensures in
    let three = c.pair-c.ensures in
    let four = c.pair-d.ensures in
    let s = c.args.s.now in
    (pairs s _ _ _ _ one.0 two.0 three.0 four.0, pairs_most _ _ _ _ one.1 two.1 three.1 four.1)
