-- `subkeys::shift_left` meets its contract: after i turns the first i bytes are those of the shifted block.
use mathlib.Core.Path.{◌≡◌}
use Rattle.octets.proofs.Fill.{filled}
use Rattle.subkeys.specs.Subkeys.{shifted_left}
use Rattle.subkeys.proofs.shift_left.Given as goal

abbrev pub invariant-loop-i : goal.invariant-loop-i
invariant-loop-i l = l.b-items ≡ filled (shifted_left l.fn.block) l.fn.block l.i
