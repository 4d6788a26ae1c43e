-- `dropping::Left::bodies_size` meets its contract: after i turns the bodies left of the first i entries are counted.
use Rattle.std.specs.Prelude.{◌≡◌, ◌*◌, ◌≤◌, length}
use Rattle.codec.specs.Jobs.{bodies_in}
use Rattle.dropping.specs.Internal.{left_of}
use Rattle.dropping.proofs.Left.bodies_size.Given as goal

abbrev pub invariant-loop-i : goal.invariant-loop-i
invariant-loop-i l = (l.size ≡ length (bodies_in (left_of l.goes-items l.self.file.now l.i))) × (l.size ≤ 65536 * l.i)
