-- Schedules that a run accepts, as calls answer them (01, Reasons for sending work back 3). Contracts go through `schedule_in`, which is
-- total: beside a refusal stands a schedule of no rounds and zero keys.
-- Assumes nothing.
use Rattle.std.specs.Prelude.{◌≡◌, cond, Result, Ok, Err, replicate}
use Rattle.refusals.specs.declared.Refusal.{Refusal}
use Rattle.refusals.specs.Cases.{first_of}
use Rattle.refusals.specs.Numbers.{number_in}
use Rattle.refusals.specs.Shared.{good_rounds, rounds_cases}
use Rattle.circuit.specs.declared.Schedule.{Schedule}
use Rattle.circuit.specs.declared.GoodSchedule.{GoodSchedule}

-- a schedule of no rounds and zero keys
abbrev pub no_schedule : Schedule
no_schedule = record { rounds = 0; keys = replicate 272 0 }

-- the schedule that a result is, no schedule where it is a refusal
abbrev pub schedule_in : Result GoodSchedule Refusal → Schedule
schedule_in (Ok good) = good.schedule
schedule_in (Err e) = no_schedule

-- the contract of taking a schedule for a good one: its round count is asked, and it stays as it is
pub record Accepts (s : Schedule) (r : Result GoodSchedule Refusal) : Type 0 where
  pub number : number_in r ≡ first_of (rounds_cases s.rounds)
  pub schedule : schedule_in r ≡ cond (good_rounds s.rounds) s no_schedule
