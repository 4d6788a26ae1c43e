-- `subkeys::shift_left` meets its contract: after i turns the first i bytes are those of the shifted block.
use mathlib.Core.Path.{◌≡◌, sym, ◌∙◌}
use native.Mathlib.Omega.{arith}
use borrow.Author.Rules.{rules}
use lib.ListN.{length}
use Rattle.octets.proofs.Fill.{fill_turn, fill_done}
use Rattle.subkeys.specs.Subkeys.{shifted_left}
use Rattle.subkeys.proofs.Doubling.{length_shifted, shifted_at}
use Rattle.subkeys.proofs.shift_left.Goals as goal

pub loop-i-preserved : goal.loop-i-preserved
loop-i-preserved c =
    let l = c.loop-i in
    let b = c.args.block in
    let size : length b ≡ 16 = search rules in
    fill_turn (shifted_left b) b _ l.i _ l.invariant (length_shifted b) (omega arith)
    (c.shifted_byte.ensures ∙ sym (shifted_at b l.i (omega arith)))

pub returns : goal.returns
returns c =
    let b = c.args.block in
    let size : length b ≡ 16 = search rules in
    fill_done (shifted_left b) b _ c.loop-i.i 16 c.loop-i.invariant (length_shifted b ∙ size) size (omega arith)
