-- `seal::write_archive` is safe and ends: the archive that it writes lies within its buffer.
-- Assumes nothing.
use mathlib.Core.Path.{refl, sym}
use lib.Seq.{length-take-le}
use Rattle.sealed_archives.proofs.Opens.{seals_fits}
use Rattle.seal.proofs.write_archive.Goals as goal

pub slice_bounds-archive-end : goal.slice_bounds-archive-end
slice_bounds-archive-end c = seals_fits _ _ _ _ _ _ _ c.in-Ok.ensures _ refl

pub slice_bounds-write_all-end : goal.slice_bounds-write_all-end
slice_bounds-write_all-end c = sym (length-take-le _ _ (seals_fits _ _ _ _ _ _ _ c.in-Ok.ensures _ refl))
