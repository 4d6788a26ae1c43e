-- `directory::check` meets its contract: the entries are asked first, then what remains after the last body.
use mathlib.Core.Path.{sym, ◌∙◌}
use native.Mathlib.Omega.{arith}
use Rattle.std.proofs.lemmas.Grind.{common_steps}
use Rattle.jobnumber.specs.Number.{order_of}
use Rattle.directory.proofs.Cases.{entry_refused, rest_left, rest_some, rest_none}
use Rattle.directory.proofs.check.Goals as goal

pub returns-in_err-check_entry : goal.returns-in_err-check_entry
returns-in_err-check_entry c =
    let told = entry_refused order_of _ _ _ c.loop-i.i c.in_err-check_entry.field-0.0 c.loop-i.invariant (omega arith)
    c.in_err-check_entry.ensures in
    grind (arith, common_steps, told)

pub returns-then-body_from-limit : goal.returns-then-body_from-limit
returns-then-body_from-limit c =
    sym (rest_some _ _ _ (λ q. c.if-body_from-limit.true (c.body_from.ensures ∙ q)))
    ∙ rest_left order_of _ _ _ (λ k l. c.loop-i.invariant k (omega arith))

pub returns : goal.returns
returns c =
    sym (rest_none _ _ _ (sym c.body_from.ensures ∙ c.if-body_from-limit.false))
    ∙ rest_left order_of _ _ _ (λ k l. c.loop-i.invariant k (omega arith))
