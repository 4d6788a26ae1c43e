-- The last round: each step on rows is the step on the block that they join to.
use mathlib.Core.Path.{◌≡◌, ap, ◌∙◌}
use mathlib.Core.List.{List}
use Prim.Native.Nat.{ℕ}
use lib.ListN.{length}
use Rattle.blocks.specs.Xor.{xor_block}
use Rattle.blocks.proofs.XorBlock.{length_xor}
use Rattle.boxes.specs.Boxes.{box}
use Rattle.boxes.specs.Layers.{layer_two}
use Rattle.boxes.proofs.Layers.{length_layer}
use Rattle.wordtables.specs.Rows.{rows_of, joined}
use Rattle.wordtables.proofs.Rows.{joined_as}
use Rattle.circuit.specs.Circuit.{last_round}
use Rattle.tables.proofs.WordTablesRounds.last.Goals as goal

pub returns : goal.returns
unfolding last_round
returns c =
    let a = c.args in
    let x : List ℕ = xor_block (joined a.x) a.key in
    let y : List ℕ = layer_two box x in
    let lx : length x ≡ 16 = length_xor (joined a.x) a.key in
    let ly : length y ≡ 16 = length_layer box 2 x ∙ lx in
    let keyed : joined c.add_key.result ≡ x = joined_as c.add_key.result x c.add_key.ensures lx in
    let boxed : joined c.last_layer-y.result ≡ y =
    joined_as c.last_layer-y.result y (c.last_layer-y.ensures ∙ ap (λ (b : List ℕ). rows_of (layer_two box b)) keyed) ly in
    c.joined_rows.ensures
    ∙ joined_as c.add_key-2.result (xor_block y a.end)
    (c.add_key-2.ensures ∙ ap (λ (b : List ℕ). rows_of (xor_block b a.end)) boxed) (length_xor y a.end ∙ ly)
