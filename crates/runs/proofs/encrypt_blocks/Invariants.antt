-- `runs::encrypt_blocks`: the blocks before block k are done, those from there on as they were.
use Rattle.std.proofs.Common.{◌*◌}
use Rattle.blocks.proofs.Running.{Running}
use Rattle.circuit.specs.Run.{encrypted}
use Rattle.runs.proofs.encrypt_blocks.Given as goal

abbrev pub invariant-loop-k : goal.invariant-loop-k
invariant-loop-k g l = Running (encrypted l.good.schedule) l.initial.run l.run (16 * l.k)
