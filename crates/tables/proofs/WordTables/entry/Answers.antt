-- `tables::WordTables::entry` meets its contract: the tables are those of the rule, which holds at each entry.
use mathlib.Core.Path.{◌∙◌, ap}
use mathlib.Core.List.{List, []}
use Prim.Native.Nat.{ℕ}
use lib.ListN.{get_or}
use Rattle.wordtables.proofs.Entries.{word_at_lem}
use borrow.Author.Rules.{rules}
use Rattle.tables.proofs.WordTables.entry.Goals as goal

pub returns : goal.returns
returns c =
    let a = c.args in
    ap (λ (t : List (List (List ℕ))). get_or (get_or (get_or t a.b []) a.p []) a.x 0) c.args.self.now.are
    ∙ word_at_lem a.b a.p a.x (search rules) (search rules) (search rules)
