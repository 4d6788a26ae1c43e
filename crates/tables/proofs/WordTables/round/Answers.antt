-- `tables::WordTables::round` meets its contract: the layer with T, then combining, permuting and combining, are the layer with A.
use mathlib.Core.Path.{◌≡◌, ap, ◌∙◌}
use mathlib.Core.List.{List}
use Prim.Native.Nat.{ℕ}
use Rattle.blocks.specs.Xor.{xor_block}
use Rattle.blocks.proofs.XorBlock.{length_xor}
use Rattle.boxes.specs.Boxes.{box}
use Rattle.boxes.specs.Layers.{layer_from}
use Rattle.diffusion.specs.Diffusion.{by_rows, diffusion}
use Rattle.diffusion.proofs.Table.{length_diffusion}
use Rattle.wordtables.specs.Rows.{rows_of, joined, spread}
use Rattle.wordtables.proofs.Rows.{joined_as, steps_rows}
use Rattle.tables.proofs.WordTables.round.Goals as goal

pub returns : goal.returns
returns c =
    let a = c.args in
    let x : List ℕ = xor_block (joined a.s) a.key in
    let keyed : joined c.add_key.result ≡ x =
    joined_as c.add_key.result x c.add_key.ensures (length_xor (joined a.s) a.key) in
    let mixed : List ℕ = layer_from box a.from x in
    joined_as c.combine-2.result (diffusion mixed)
    (steps_rows (layer_from box a.from x) c.spread_layer-x.result c.combine.result c.permute.result c.combine-2.result
    (c.spread_layer-x.ensures ∙ ap (λ (b : List ℕ). rows_of (by_rows spread (layer_from box a.from b))) keyed) c.combine.ensures
    c.permute.ensures c.combine-2.ensures)
    (length_diffusion mixed)
