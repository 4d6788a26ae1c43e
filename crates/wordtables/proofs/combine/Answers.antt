-- `wordtables::combine` meets its contract: each row is the sum of the three that the step's table names.
use Rattle.wordtables.proofs.Rows.{combined}
use Rattle.wordtables.proofs.combine.Goals as goal

pub returns : goal.returns
returns c =
    combined c.args.s
    c.xor_three.ensures c.xor_three-2.ensures c.xor_three-3.ensures c.xor_three-4.ensures
