-- `blocks::add` meets its contract: after j turns the first j bytes are the sums; the loop ends with the bytes or with the part.
use native.Mathlib.Omega.{arith}
use lib.ListN.{length-take}
use Rattle.blocks.proofs.XorBlock.{added_turn, added_upto}
use Rattle.blocks.proofs.add.Goals as goal

pub loop-j-preserved : goal.loop-j-preserved
loop-j-preserved c =
    let a = c.args in
    let size = length-take c.min-n.result a.bytes.now in
    added_turn a.part.now a.bytes.now _ c.loop-j.j c.min-n.result c.loop-j.invariant (omega arith) (omega arith)

pub returns : goal.returns
returns c =
    let a = c.args in
    let size = length-take c.min-n.result a.bytes.now in
    added_upto a.part.now a.bytes.now _ c.loop-j.j c.loop-j.invariant (omega arith)
