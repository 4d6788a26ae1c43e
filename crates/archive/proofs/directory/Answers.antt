-- `archive::directory` meets its contract: the part is empty where checking refuses.
use mathlib.Core.Path.{sym, ◌∙◌}
use Rattle.refusals.proofs.Answers.{answer_none, answer_gives, refusal_is, part_refused, part_gives}
use Rattle.refusals.proofs.Numbers.{number_some}
use Rattle.admission.proofs.Accepted.{accepted_header}
use Rattle.archive.proofs.directory.Goals as goal

pub returns-in_default : goal.returns-in_default
returns-in_default c =
    let e = c.in_default in
    let some = number_some e.field-0.refusal in
    record {
      bytes = c.part.ensures.bytes ∙ part_refused _ _ _ (refusal_is _ _ _ e.ensures.number some);
      place = λ n g. absurd (some (e.ensures.number ∙ (answer_gives _ _ n g).0));
    }

pub returns : goal.returns
returns c =
    let none = sym c.in-Ok.ensures.number in
    record {
      bytes = c.directory.ensures.bytes ∙ part_gives _ _ _ (sym (answer_none _ _ none));
      place = λ n g. c.directory.ensures.place (accepted_header _ _ _ _ none).long;
    }
