-- `sbox::layer` meets its contract: after j turns the first j bytes are those of the layer.
use mathlib.Core.Path.{◌≡◌, ap, sym, ◌∙◌}
use mathlib.Core.List.{List}
use Prim.Native.Nat.{ℕ, ◌+◌, ◌%◌, ◌<◌}
use native.Mathlib.Omega.{arith}
use borrow.Author.Rules.{rules}
use lib.ListN.{length}
use Rattle.octets.proofs.Fill.{fill_turn, fill_read, fill_done}
use Rattle.boxes.specs.Boxes.{box_by}
use Rattle.boxes.specs.Layers.{layer_from}
use Rattle.boxes.proofs.Layers.{length_layer, layer_at}
use Rattle.sbox.proofs.layer.Goals as goal

pub loop-j-preserved : goal.loop-j-preserved
loop-j-preserved c =
    let a = c.args in
    let l = c.loop-j in
    let f : ℕ → ℕ → ℕ = box_by a.t.now in
    let b : List ℕ = a.block in
    let t : List ℕ = layer_from f a.from b in
    let hb : length b ≡ 16 = search rules in
    let hj : l.j < length b = omega arith in
    let same = length_layer f a.from b in
    fill_turn t b _ l.j _ l.invariant same hj
    (c.substitute.ensures ∙ ap (f ((a.from + l.j) % 4)) (fill_read t b _ l.j l.invariant same hj) ∙ sym (layer_at f a.from b l.j hj))

pub returns : goal.returns
returns c =
    let a = c.args in
    let f : ℕ → ℕ → ℕ = box_by a.t.now in
    let b : List ℕ = a.block in
    let hb : length b ≡ 16 = search rules in
    fill_done (layer_from f a.from b) b _ _ 16 c.loop-j.invariant (length_layer f a.from b ∙ hb) hb (omega arith)
