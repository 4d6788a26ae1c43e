-- `opening::prefix` meets its contract: the archive number is put at the front, the digits behind it.
use mathlib.Core.Path.{◌≡◌, refl}
use borrow.Author.Rules.{rules}
use lib.ListN.{length}
use Rattle.opening.proofs.Plaintext.{prefix_made}
use Rattle.opening.proofs.prefix.Goals as goal

pub returns : goal.returns
returns c =
    let a = c.args in
    let four : length a.archive ≡ 4 = search rules in
    prefix_made a.archive a.number _ _ _ four refl c.copy_from_slice.ensures.after c.copy_from_slice-2.ensures.after
