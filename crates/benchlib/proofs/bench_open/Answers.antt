-- `benchlib::bench_open` meets its contract: what the call answers is told by its refusal.
use mathlib.Core.Path.{refl}
use native.Mathlib.Omega.{arith}
use Rattle.benchlib.proofs.Opening.{bench_opens}
use Rattle.benchlib.proofs.bench_open.Goals as goal

pub returns-in-Ok : goal.returns-in-Ok
returns-in-Ok c = bench_opens _ _ _ _ _ _ _ _ _ _ refl c.in-Ok.ensures

pub returns-in-Err : goal.returns-in-Err
returns-in-Err c = bench_opens _ _ _ _ _ _ _ _ _ _ (omega (arith, c.from.ensures)) c.in-Err.ensures
