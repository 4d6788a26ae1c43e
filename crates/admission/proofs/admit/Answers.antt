-- `admission::admit` meets its contract: the key is prepared, and its refusal stands; else tag key and file are asked.
use mathlib.Core.Path.{refl, sym, ◌∙◌}
use Rattle.refusals.proofs.Shared.{key_good}
use Rattle.refusals.proofs.Numbers.{number_some}
use Rattle.admission.proofs.Checking.{check_key, check_ready, tag_schedule_else, tag_schedule_good}
use Rattle.admission.proofs.Accepted.{handed_on}
use Rattle.admission.proofs.admit.Goals as goal

pub returns-in-Ok : goal.returns-in-Ok
returns-in-Ok c =
    let p = c.in-Ok.ensures in
    let under = c.admit_under.ensures in
    let number = check_ready _ _ _ _ _ p refl under.number in
    let schedule = under.schedule ∙ p.schedule in
    let tagged = under.tagged ∙ tag_schedule_good _ _ (key_good _ (sym p.number)) in
    record { number = number; schedule = schedule; tagged = tagged; handed = handed_on _ _ _ _ number schedule tagged }

pub returns-in-Err : goal.returns-in-Err
returns-in-Err c =
    let p = c.in-Err.ensures in
    let number = check_key _ _ _ c.in-Err.refusal p.number in
    let tagged = p.schedule ∙ tag_schedule_else _ _ _ p (number_some c.in-Err.refusal) in
    record { number = number; schedule = p.schedule; tagged = tagged; handed = tt }
