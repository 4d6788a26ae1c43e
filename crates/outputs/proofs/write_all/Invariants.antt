-- `outputs::write_all` ends: each turn writes a byte at least. Of no bytes there is no turn.
use Rattle.std.proofs.Common.{◌≡◌, length}
use Rattle.outputs.proofs.write_all.Given as goal

abbrev pub invariant-loop-rest : goal.invariant-loop-rest
invariant-loop-rest g l = length l.bytes ≡ 0 → length l.rest ≡ 0

abbrev pub decreases-loop-rest : goal.decreases-loop-rest
decreases-loop-rest g l = length l.rest
