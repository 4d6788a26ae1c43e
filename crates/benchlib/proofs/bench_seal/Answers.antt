-- `benchlib::bench_seal` meets its contract: what the call answers is told by its refusal.
use mathlib.Core.Path.{refl}
use native.Mathlib.Omega.{arith}
use Rattle.benchlib.proofs.Sealing.{bench_seals}
use Rattle.benchlib.proofs.bench_seal.Goals as goal

pub returns-in-Ok : goal.returns-in-Ok
returns-in-Ok c = bench_seals _ _ _ _ _ _ _ _ refl c.in-Ok.ensures

pub returns-in-Err : goal.returns-in-Err
returns-in-Err c = bench_seals _ _ _ _ _ _ _ _ (omega (arith, c.from.ensures)) c.in-Err.ensures
