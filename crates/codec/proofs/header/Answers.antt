-- `codec::header` meets its contract: layout, key length and count, then the other fields, are put one behind the other.
use mathlib.Core.Path.{◌≡◌}
use lib.ListN.{length}
use borrow.Author.Rules.{rules}
use Rattle.codec.proofs.Putting.{header_put}
use Rattle.codec.proofs.header.Goals as goal

pub returns : goal.returns
returns c =
    -- this far back the search for the two lengths does not look by itself
    let number-known = c.well_formed.1.1.1.0 in
    let check-known = c.well_formed.1.1.1.1.0 in
    let four : length c.args.number ≡ 4 = search rules in
    let eight : length c.args.check ≡ 8 = search rules in
    let first = rw c.in_two.ensures at c.put-second.ensures in
    header_put c.args.layout c.args.keysize c.args.count c.args.whole c.args.number c.args.check _ four eight
    c.in_four.ensures first c.put-third.ensures c.put-last.ensures
    c.put.ensures
