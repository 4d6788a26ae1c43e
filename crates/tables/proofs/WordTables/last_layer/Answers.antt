-- `tables::WordTables::last_layer` meets its contract: row by row.
use mathlib.Core.Path.{sym, ap, ◌∙◌}
use Rattle.boxes.specs.Boxes.{box}
use Rattle.wordtables.specs.Rows.{rows_of}
use Rattle.wordtables.proofs.Rows.{list_four, layer_rows}
use Rattle.tables.proofs.WordTables.last_layer.Goals as goal

pub returns : goal.returns
returns c =
    let s = c.args.s in
    list_four c.last_row.ensures c.last_row-2.ensures c.last_row-3.ensures c.last_row-4.ensures
    ∙ ap rows_of (sym (layer_rows box 2 s))
