-- `runs::encrypt`: before each turn x is the block after twice as many rounds as there were turns.
use Rattle.std.proofs.Common.{◌*◌}
use Rattle.boxes.specs.Boxes.{box}
use Rattle.circuit.proofs.Walking.{Walking}
use Rattle.runs.proofs.encrypt.Given as goal

abbrev pub invariant-loop-pair : goal.invariant-loop-pair
invariant-loop-pair g l = Walking box l.n l.keys l.fn.block (2 * l.pair) (g.E.Rounds.block l.x)
