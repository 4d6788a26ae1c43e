-- `archive::find` meets its contract: a refusal of keys or file stands; an accepted archive leaves the cases of the number.
use mathlib.Core.Path.{◌≡◌}
use borrow.Author.Rules.{rules}
use Rattle.std.specs.Prelude.{Err}
use Rattle.archive.proofs.Finding.{finds_refused, finds_asked}
use Rattle.archive.proofs.find.Goals as goal

pub returns-in_err-admit : goal.returns-in_err-admit
returns-in_err-admit c =
    let e = c.in_err-admit in
    let told : c.from_residual.result ≡ Err e.field-0.0.refusal = search rules in
    finds_refused _ _ _ _ _ _ told e.ensures.number

pub returns : goal.returns
returns c = finds_asked _ _ _ _ _ c.in_ok-admit.ensures.number c.lookup.ensures
