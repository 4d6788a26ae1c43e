-- `wordtables::permute` meets its contract: each byte is the one that the step's table names.
use mathlib.Core.Path.{sym, ap}
use Rattle.wordtables.specs.Rows.{rows_of, joined, permutation}
use Rattle.wordtables.proofs.Rows.{sums_at}
use Rattle.wordtables.proofs.permute.Goals as goal

pub returns : goal.returns
unfolding permutation
returns c =
    let s = c.args.s in
    ap rows_of (sym (sums_at permutation (joined s)))
