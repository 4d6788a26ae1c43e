-- The rows of a block, joined, are the block.
use Rattle.std.proofs.Common.{◌≡◌, length, rules}
use Rattle.wordtables.proofs.Rows.{joined_as}
use Rattle.tables.proofs.WordTablesRounds.enter.Goals as goal

pub returns : goal.returns
returns c = let sixteen : length c.args.bytes ≡ 16 = search rules in joined_as _ _ c.rows_of.ensures sixteen
