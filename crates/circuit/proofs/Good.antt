-- What a result with a good schedule in it tells.
-- Assumes nothing.
use Rattle.std.proofs.Common.{◌≡◌, Bool, true, false, cond, refl, sym, ap, ◌∙◌}
use Rattle.std.specs.Prelude.{Result, Ok, Err}
use Rattle.refusals.specs.declared.Refusal.{Refusal}
use Rattle.refusals.specs.Numbers.{number_in}
use Rattle.refusals.specs.Shared.{good_rounds}
use Rattle.refusals.proofs.Shared.{rounds_good, rounds_bad}
use Rattle.refusals.proofs.Numbers.{number_some}
use Rattle.circuit.specs.declared.Schedule.{Schedule}
use Rattle.circuit.specs.declared.GoodSchedule.{GoodSchedule}
use Rattle.circuit.specs.Good.{no_schedule, schedule_in, Accepts}

-- where there is no refusal, the round count is good
pub schedule_good : (r : Result GoodSchedule Refusal) → number_in r ≡ 0 → good_rounds (schedule_in r).rounds ≡ true
schedule_good (Ok good) q = good.good
schedule_good (Err e) q = absurd (number_some e q)

-- where there is one, there is no schedule
pub schedule_none : (r : Result GoodSchedule Refusal) → (number_in r ≡ 0 → ⊥) → schedule_in r ≡ no_schedule
schedule_none (Ok good) h = absurd (h refl)
schedule_none (Err e) h = refl

-- a schedule that is taken for a good one is the one that was handed in
pub accepted : (s : Schedule) (good : GoodSchedule) → Accepts s (Ok good) → good.schedule ≡ s
accepted s good a = a.schedule ∙ ap (λ (t : Bool). cond t s no_schedule) (rounds_good s.rounds (sym a.number))

-- one that is refused has another round count
pub not_accepted : (s : Schedule) (e : Refusal) → Accepts s (Err e) → good_rounds s.rounds ≡ false
not_accepted s e a = rounds_bad s.rounds (λ z. number_some e (a.number ∙ z))
