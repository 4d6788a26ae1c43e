-- `benchlib::bench_ctr` meets its contract: a key that is refused leaves the run alone, under a good one it is counter mode.
use Rattle.benchlib.proofs.Bench.{refused, ready}
use Rattle.benchlib.proofs.bench_ctr.Goals as goal

pub returns-in-Ok : goal.returns-in-Ok
returns-in-Ok c =
    let p = c.in-Ok.ensures in
    ready _ _ _ _ _ _ _ p.number p.schedule c.copy.ensures c.apply_good.ensures.stream

pub returns-in-Err : goal.returns-in-Err
returns-in-Err c = refused _ _ _ _ _ _ c.from.ensures c.in-Err.ensures.number
