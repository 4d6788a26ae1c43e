-- `tables::xor_rows` meets its contract: row by row, and in each byte by byte.
use Rattle.blocks.specs.Xor.{xor_block}
use Rattle.wordtables.proofs.Rows.{list_four}
use Rattle.tables.proofs.xor_rows.Goals as goal

pub returns : goal.returns
unfolding xor_block
returns c = list_four c.xor_two.ensures c.xor_two-2.ensures c.xor_two-3.ensures c.xor_two-4.ensures
