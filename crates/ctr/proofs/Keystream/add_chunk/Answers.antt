-- `ctr::Keystream::add_chunk` meets its contract: the blocks that are made reach from the first block's start to past the part.
use mathlib.Core.Path.{◌≡◌, ◌∙◌}
use Prim.Native.Nat.{ℕ, ◌+◌, ◌-◌}
use native.Mathlib.Omega.{arith}
use borrow.Author.Rules.{rules}
use lib.ListN.{length}
use Rattle.ctr.proofs.Counters.{keystream_added}
use Rattle.ctr.proofs.Keystream.add_chunk.Goals as goal

pub returns : goal.returns
returns c =
    let a = c.args in
    let m : ℕ = a.offset + length a.part.now - a.offset in
    let twelve : length a.self.prefix ≡ 12 = search rules in
    c.add.ensures
    ∙ keystream_added a.self.prefix twelve a.self.schedule.schedule a.block _ a.offset m a.part.now _ _
    c.fill.ensures
    (omega arith)
    (omega arith)
