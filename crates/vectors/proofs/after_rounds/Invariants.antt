-- `vectors::after_rounds` meets its contract: after i turns the block is after i rounds.
use mathlib.Core.Path.{◌≡◌}
use Rattle.boxes.specs.Boxes.{box_by}
use Rattle.circuit.specs.Circuit.{rounds}
use Rattle.vectors.proofs.after_rounds.Given as goal

abbrev pub invariant-loop-i : goal.invariant-loop-i
invariant-loop-i l = l.x ≡ rounds (box_by l.t) l.keys l.i l.fn.block
