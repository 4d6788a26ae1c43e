-- `preview_listing::list_left` meets its contract: the preview's refusal, or its directory, which lies within the buffer.
use mathlib.Core.Path.{sym, ap}
use Prim.Native.Nat.{ℕ}
use native.Mathlib.Omega.{arith}
use lib.ListN.{length-replicate}
use lib.Seq.{length-take-le}
use Rattle.dropped_jobs.proofs.Previews.{preview_bounds}
use Rattle.listing.specs.Text.{refused_word, number_line}
use Rattle.listing.proofs.Fits.{held_as}
use Rattle.preview_listing.proofs.Lists.{left_refused, left_listed}
use Rattle.preview_listing.proofs.list_left.Goals as goal

pub overflow_mul-end : goal.overflow_mul-end
overflow_mul-end c =
    let bounds = preview_bounds _ _ _ _ _ _ _ c.in-Ok.ensures in
    omega (arith, bounds.0)

pub slice_bounds-directory-end : goal.slice_bounds-directory-end
slice_bounds-directory-end c =
    let bounds = preview_bounds _ _ _ _ _ _ _ c.in-Ok.ensures in
    omega (arith, bounds.0)

pub slice_bounds-list_directory-end : goal.slice_bounds-list_directory-end
slice_bounds-list_directory-end c =
    let bounds = preview_bounds _ _ _ _ _ _ _ c.in-Ok.ensures in
    sym (length-take-le _ _ (omega (arith, bounds.0)))

pub returns-in-Ok : goal.returns-in-Ok
returns-in-Ok c = left_listed _ _ _ _ _ _ _ c.in-Ok.ensures _ c.list_directory.ensures

pub returns-in-Err : goal.returns-in-Err
returns-in-Err c =
    left_refused _ _ _ _ _ _ _ c.in-Err.ensures (omega (arith, length-replicate {A = ℕ} 1024 0)) _
    (held_as (ap (number_line refused_word) c.from.ensures) c.refusal-line.ensures)
