-- `listing::list_directory` meets its contract: the lines where they fit, else no bytes.
use mathlib.Core.Path.{sym, ◌∙◌}
use borrow.Author.Tests.{not-true}
use Rattle.listing.proofs.Fits.{held_as}
use Rattle.listing.proofs.Directories.{text_else}
use Rattle.listing.proofs.list_directory.Goals as goal

pub returns-then-not-printable : goal.returns-then-not-printable
returns-then-not-printable c =
    held_as (text_else _ (sym c.printable.ensures ∙ not-true c.printable.result c.if-not-printable.true-raw)) c.of.ensures
