-- `directory::search` meets its contract: the invariant says that the search ends at no entry before i.
use mathlib.Core.Path.{◌∙◌}
use native.Mathlib.Omega.{arith}
use borrow.Author.Count.{below_more}
use Rattle.directory.proofs.Searching.{read_above, read_not_above, read_bears, goes_on, gone_on}
use Rattle.directory.proofs.Searching.{search_at, search_past, search_nowhere, searched}
use Rattle.directory.proofs.search.Goals as goal

pub returns-then-asked-order_of : goal.returns-then-asked-order_of
returns-then-asked-order_of c =
    let l = c.loop-i in
    let past = read_above _ _ l.i _ c.entry-job.ensures.bytes _ _ c.order_of-asked.ensures
    c.order_of.ensures c.if-asked-order_of.true in
    searched _ _ _ (search_past _ _ l.i (omega arith) l.invariant past)

pub returns-then-same : goal.returns-then-same
returns-then-same c =
    let l = c.loop-i in
    let here = read_bears _ _ l.i _ c.entry-job.ensures.bytes _ _ c.part.ensures.bytes
    c.same.ensures in
    searched _ _ _ (search_at _ _ l.i (omega arith) l.invariant (here ∙ c.if-same.true))

pub loop-i-preserved : goal.loop-i-preserved
loop-i-preserved c =
    let l = c.loop-i in
    let other = read_bears _ _ l.i _ c.entry-job.ensures.bytes _ _ c.part.ensures.bytes
    c.same.ensures ∙ c.if-same.false in
    let below = read_not_above _ _ l.i _ c.entry-job.ensures.bytes _ _ c.order_of-asked.ensures
    c.order_of.ensures c.if-asked-order_of.false in
    below_more _ _ l.invariant (goes_on _ _ l.i other below)

pub returns : goal.returns
returns c = searched _ _ _ (search_nowhere _ _ (λ k l. (gone_on _ _ k (c.loop-i.invariant k (omega arith))).0))
