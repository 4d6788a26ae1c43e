-- `tables::chain_blocks`: the blocks before this one are taken in.
use Rattle.std.proofs.Common.{◌≡◌}
use Rattle.blocks.specs.Chains.{zero_block, chained}
use Rattle.circuit.specs.Run.{encrypted}
use Rattle.tables.proofs.chain_blocks.Given as goal

abbrev pub invariant-loop-block : goal.invariant-loop-block
invariant-loop-block l = l.x ≡ chained (encrypted l.good.schedule) zero_block l.block-index l.run
