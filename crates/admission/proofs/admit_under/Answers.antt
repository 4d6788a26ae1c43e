-- `admission::admit_under` meets its contract: no tag key leaves the file of layout 1; a tag key is prepared, its refusal told first, then
-- the file of layout 2 is asked, and its tag last.
use mathlib.Core.Path.{sym, ap, ◌∙◌}
use Rattle.expansion.specs.KeySchedule.{schedule_of}
use Rattle.refusals.proofs.Numbers.{number_some}
use Rattle.admission.proofs.Tags.{no_bytes, tagged_none, tagged_else, none_schedule}
use Rattle.admission.proofs.admit_under.Goals as goal

pub returns-then-tag_key-eq0 : goal.returns-then-tag_key-eq0
returns-then-tag_key-eq0 c =
    let none = c.if-tag_key-eq0.true in
    let told = c.beside.ensures in
    record {
      number = tagged_none _ _ _ _ _ none (told.number ∙ c.check_file.ensures);
      schedule = told.schedule;
      tagged = told.tagged ∙ none_schedule ∙ ap schedule_of (sym (no_bytes _ none));
    }

pub returns-in-Ok : goal.returns-in-Ok
returns-in-Ok c =
    let made = c.in-Ok.ensures in
    let told = c.beside-in-Ok.ensures in
    record {
      number = told.number ∙ c.check_tagged.ensures _ c.if-tag_key-eq0.false made;
      schedule = told.schedule;
      tagged = told.tagged ∙ made.schedule;
    }

pub returns-in-Err : goal.returns-in-Err
returns-in-Err c =
    let made = c.in-Err.ensures in
    let told = c.beside-in-Err.ensures in
    record {
      number = tagged_else _ _ _ _ _ c.if-tag_key-eq0.false _ made (number_some c.in-Err.refusal) told.number;
      schedule = told.schedule;
      tagged = told.tagged ∙ made.schedule;
    }
