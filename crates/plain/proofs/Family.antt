-- Tables that are the boxes make ARIA's box family.
-- Assumes nothing.
use Rattle.std.proofs.Common.{◌≡◌, ℕ, List, ap}
use Rattle.boxes.specs.Boxes.{boxes, box_by, box}

pub by_boxes : (t : List (List ℕ)) → t ≡ boxes → box_by t ≡ box
unfolding box
by_boxes t e = ap box_by e
