-- `open::open_job` is safe and ends: the plain bytes that it writes lie within its buffer.
-- Assumes nothing.
use mathlib.Core.Path.{refl, sym}
use lib.Seq.{length-take-le}
use Rattle.opening.proofs.Opening.{opens_fits}
use Rattle.open.proofs.open_job.Goals as goal

pub slice_bounds-plain-end : goal.slice_bounds-plain-end
slice_bounds-plain-end c = opens_fits _ _ _ _ _ _ _ _ _ c.in_ok-opened.ensures _ refl

pub slice_bounds-write_all-end : goal.slice_bounds-write_all-end
slice_bounds-write_all-end c = sym (length-take-le _ _ (opens_fits _ _ _ _ _ _ _ _ _ c.in_ok-opened.ensures _ refl))
