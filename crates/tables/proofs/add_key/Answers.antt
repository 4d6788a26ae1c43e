-- `tables::add_key` meets its contract: a key is its rows joined.
use mathlib.Core.Path.{◌≡◌, ap, ◌∙◌}
use mathlib.Core.List.{List}
use Prim.Native.Nat.{ℕ}
use lib.ListN.{length}
use Rattle.blocks.specs.Xor.{xor_block}
use Rattle.wordtables.specs.Rows.{rows_of, joined}
use Rattle.wordtables.proofs.Rows.{joined_as}
use borrow.Author.Rules.{rules}
use Rattle.tables.proofs.add_key.Goals as goal

pub returns : goal.returns
returns c =
    let a = c.args in
    let h : length a.key ≡ 16 = search rules in
    c.xor_rows.ensures
    ∙ ap (λ (k : List ℕ). rows_of (xor_block (joined a.s) k))
    (joined_as c.rows_of.result a.key c.rows_of.ensures h)
