-- `inputs::read_all` meets its contract: after each turn the front of the buffer is filled.
use Prim.Native.Nat.{◌-◌}
use lib.ListN.{length}
use Rattle.inputs.specs.Filled.{Filled}
use Rattle.inputs.proofs.read_all.Given as goal

abbrev pub invariant-loop-done : goal.invariant-loop-done
invariant-loop-done g l = Filled l.initial.buf l.done l.buf

abbrev pub decreases-loop-done : goal.decreases-loop-done
decreases-loop-done g l = length l.buf - l.done
