-- `tables::chain_blocks` meets its contract: the blocks before this one are taken in.
use Rattle.std.proofs.Common.{◌≡◌, refl, ap, ◌∙◌, ℕ, ◌/◌, ◌<◌, length, add-one, arith}
use Rattle.blocks.specs.Chains.{zero_block, chained}
use Rattle.circuit.specs.Run.{encrypted}
use Rattle.tables.proofs.Chains.{chunk_at}
use Rattle.tables.proofs.chain_blocks.Goals as goal

pub loop-block-init : goal.loop-block-init
unfolding chained
loop-block-init c = refl

pub loop-block-preserved : goal.loop-block-preserved
unfolding chained
loop-block-preserved c =
    let run = c.args.run.now in
    let k = c.loop-block.block-index in
    let within : k < length run / 16 = omega arith in
    let here = chunk_at (length run / 16) k run within in
    rw add-one (c.encrypt_one-x.ensures ∙ ap (encrypted c.args.good.now.schedule) (c.xor.ensures ∙ cc))

pub returns : goal.returns
returns c =
    let all : c.loop-block.block-index ≡ length c.args.run.now / 16 = omega arith in
    c.loop-block.invariant ∙ ap (λ (k : ℕ). chained (encrypted c.args.good.now.schedule) zero_block k c.args.run.now) all
