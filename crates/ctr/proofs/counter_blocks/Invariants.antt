-- `ctr::counter_blocks` meets its contract: after i turns the first i blocks are the counter blocks; a turn writes one more.
use mathlib.Core.Path.{◌≡◌}
use mathlib.Core.List.{◌++◌}
use Prim.Native.Nat.{◌*◌}
use lib.ListN.{drop}
use Rattle.ctr.specs.Internal.{counter_blocks}
use Rattle.ctr.proofs.counter_blocks.Given as goal

abbrev pub invariant-loop-i : goal.invariant-loop-i
invariant-loop-i l = l.run ≡ counter_blocks l.prefix l.block l.i ++ drop (16 * l.i) l.initial.run
