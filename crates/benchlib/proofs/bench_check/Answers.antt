-- `benchlib::bench_check` meets its contract: what checking answers is told by its refusal.
use native.Mathlib.Omega.{arith}
use Rattle.std.specs.Prelude.{Ok, Err}
use Rattle.benchlib.proofs.Told.{number_answered}
use Rattle.benchlib.proofs.bench_check.Goals as goal

pub returns-in-Ok : goal.returns-in-Ok
returns-in-Ok c = number_answered (Ok c.in-Ok._jobs) _ _ c.in-Ok.ensures

pub returns-in-Err : goal.returns-in-Err
returns-in-Err c = omega (arith, c.from.ensures, number_answered (Err c.in-Err.unchecked) _ _ c.in-Err.ensures)
