-- `benchlib::bench_preview` meets its contract: the numbers are small.
use native.Mathlib.Omega.{arith}
use borrow.Author.Rules.{rules}
use Rattle.dropped_jobs.proofs.Previews.{preview_bounds}
use Rattle.benchlib.proofs.bench_preview.Goals as goal

pub overflow_mul-result : goal.overflow_mul-result
overflow_mul-result c =
    let small = preview_bounds _ _ _ _ _ _ _ c.in-Ok.ensures in
    search (rules, small.0, small.1)

pub overflow_add-result : goal.overflow_add-result
overflow_add-result c =
    let small = preview_bounds _ _ _ _ _ _ _ c.in-Ok.ensures in
    search (rules, small.0, small.1)

pub overflow_mul-result-in-Ok : goal.overflow_mul-result-in-Ok
overflow_mul-result-in-Ok c =
    let small = preview_bounds _ _ _ _ _ _ _ c.in-Ok.ensures in
    search (rules, small.0, small.1)

pub returns-in-Ok : goal.returns-in-Ok
returns-in-Ok c = record { seen = _; previews = c.in-Ok.ensures; numbers = omega arith }

pub returns-in-Err : goal.returns-in-Err
returns-in-Err c = record { seen = _; previews = c.in-Err.ensures; numbers = omega (arith, c.from.ensures) }
