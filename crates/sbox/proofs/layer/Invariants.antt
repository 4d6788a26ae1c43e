-- `sbox::layer` meets its contract: after j turns the first j bytes are those of the layer.
use mathlib.Core.Path.{◌≡◌}
use Rattle.octets.proofs.Fill.{filled}
use Rattle.boxes.specs.Boxes.{box_by}
use Rattle.boxes.specs.Layers.{layer_from}
use Rattle.sbox.proofs.layer.Given as goal

abbrev pub invariant-loop-j : goal.invariant-loop-j
invariant-loop-j l = l.x-items ≡ filled (layer_from (box_by l.t) l.from l.fn.block) l.fn.block l.j
