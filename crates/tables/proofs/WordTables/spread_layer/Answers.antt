-- `tables::WordTables::spread_layer` meets its contract: row by row.
use mathlib.Core.Path.{sym, ◌∙◌}
use Rattle.boxes.specs.Boxes.{box}
use Rattle.wordtables.proofs.Rows.{list_four, layer_spread}
use Rattle.tables.proofs.WordTables.spread_layer.Goals as goal

pub returns : goal.returns
returns c =
    let a = c.args in
    list_four c.spread_row.ensures c.spread_row-2.ensures c.spread_row-3.ensures c.spread_row-4.ensures
    ∙ sym (layer_spread box a.from a.s)
