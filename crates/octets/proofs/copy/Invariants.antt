-- `octets::copy` meets its contract: after j turns the first j bytes are copied.
use mathlib.Core.Path.{◌≡◌}
use lib.ListN.{length}
use Rattle.octets.proofs.Fill.{filled}
use Rattle.octets.proofs.copy.Given as goal

abbrev pub invariant-loop-j : goal.invariant-loop-j
invariant-loop-j l = (length l.out ≡ length l.initial.out) × (l.out ≡ filled l.bytes l.initial.out l.j)
