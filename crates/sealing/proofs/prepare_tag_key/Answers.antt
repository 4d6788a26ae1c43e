-- `sealing::prepare_tag_key` meets its contract: a tag key of no bytes is none, and another is judged as a key is.
use Rattle.std.proofs.Common.{sym, ◌∙◌, arith}
use Rattle.std.proofs.lemmas.Bool.{eqb-true, eqb-false}
use Rattle.std.proofs.lemmas.Grind.{common_steps}
use Rattle.refusals.proofs.Shared.{tag_key_none, tag_key_some}
use Rattle.sealing.proofs.Ways.{tag_of_none, tag_of_some}
use Rattle.sealing.proofs.prepare_tag_key.Goals as goal

pub returns-then-is_empty-clause-number : goal.returns-then-is_empty-clause-number
returns-then-is_empty-clause-number c =
    sym (tag_key_none _ (eqb-true _ _ (sym c.is_empty.ensures ∙ c.if-is_empty.true)))

pub returns-then-is_empty-clause-made : goal.returns-then-is_empty-clause-made
returns-then-is_empty-clause-made c = tag_of_none _ (eqb-true _ _ (sym c.is_empty.ensures ∙ c.if-is_empty.true))

pub returns-in_err-tag_schedule-clause-number : goal.returns-in_err-tag_schedule-clause-number
returns-in_err-tag_schedule-clause-number c =
    let some = eqb-false _ _ (sym c.is_empty.ensures ∙ c.if-is_empty.false) in
    let told = c.in_err-tag_schedule.ensures.number ∙ sym (tag_key_some _ some) in
    grind (arith, common_steps, told)

pub returns-clause-number : goal.returns-clause-number
returns-clause-number c =
    let some = eqb-false _ _ (sym c.is_empty.ensures ∙ c.if-is_empty.false) in
    c.in_ok-tag_schedule.ensures.number ∙ sym (tag_key_some _ some)

pub returns-clause-made : goal.returns-clause-made
returns-clause-made c =
    let some = eqb-false _ _ (sym c.is_empty.ensures ∙ c.if-is_empty.false) in
    tag_of_some _ some c.in_ok-tag_schedule.tag_schedule c.in_ok-tag_schedule.ensures.schedule
