-- `codec::entry` meets its contract: the number, the start and the size are put one behind the other.
use mathlib.Core.Path.{◌≡◌}
use lib.ListN.{length}
use borrow.Author.Rules.{rules}
use Rattle.codec.proofs.Putting.{entry_put}
use Rattle.codec.proofs.entry.Goals as goal

pub returns : goal.returns
returns c =
    let eight : length c.args.number ≡ 8 = search rules in
    entry_put c.args.number _ _ c.args.start c.args.size eight c.in_four.ensures
    c.in_four-2.ensures c.put-second.ensures c.put-third.ensures c.put.ensures
