-- `drop::write_archive` is safe and ends: the archive that it writes lies within its buffer.
-- Assumes nothing.
use mathlib.Core.Path.{refl, sym}
use lib.Seq.{length-take-le}
use Rattle.dropped_jobs.proofs.Leaves.{drops_fits}
use Rattle.drop.proofs.write_archive.Goals as goal

pub slice_bounds-smaller-end : goal.slice_bounds-smaller-end
slice_bounds-smaller-end c = drops_fits _ _ _ _ _ _ _ c.in_ok-n.ensures _ refl

pub slice_bounds-write_all-end : goal.slice_bounds-write_all-end
slice_bounds-write_all-end c = sym (length-take-le _ _ (drops_fits _ _ _ _ _ _ _ c.in_ok-n.ensures _ refl))
