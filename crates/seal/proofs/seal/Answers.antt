-- `seal::seal` is safe and ends: what is handed on of the sheet lies within its buffer.
-- Assumes nothing.
use mathlib.Core.Path.{sym}
use native.Mathlib.Omega.{arith}
use lib.Seq.{length-take-le}
use Rattle.sheet.proofs.Long.{handed_most}
use Rattle.seal.proofs.seal.Goals as goal

pub slice_bounds-sheet-end : goal.slice_bounds-sheet-end
slice_bounds-sheet-end c =
    let read = c.in-Ok.ensures in
    omega (arith, read.filled.same, c.handed_on-n.ensures, handed_most c.in-Ok.counted.length c.in-Ok.counted.beyond)

pub slice_bounds-seal_sheet-end : goal.slice_bounds-seal_sheet-end
slice_bounds-seal_sheet-end c =
    let read = c.in-Ok.ensures in
    sym (length-take-le _ _ (omega (
      arith,
      read.filled.same,
      c.handed_on-n.ensures,
      handed_most c.in-Ok.counted.length c.in-Ok.counted.beyond,
    )))
