-- `ctr::Keystream::fill` meets its contract: the counter blocks are whole blocks, so that the run of the cipher is not refused.
use mathlib.Core.Path.{◌≡◌}
use borrow.Author.Rules.{rules}
use lib.ListN.{length}
use Rattle.ctr.proofs.Counters.{counters_taken, counters_ran}
use Rattle.ctr.proofs.Keystream.fill.Goals as goal

pub unwrap-requires : goal.unwrap-requires
unwrap-requires c =
    let s = c.args.self in
    let twelve : length s.prefix ≡ 12 = search rules in
    counters_taken s.prefix twelve s.schedule.schedule c.args.block s.schedule.good _ _ c.counter_blocks.ensures _ _ c.run.ensures

pub returns : goal.returns
returns c =
    let s = c.args.self in
    let twelve : length s.prefix ≡ 12 = search rules in
    counters_ran s.prefix twelve s.schedule.schedule c.args.block s.schedule.good _ _ c.counter_blocks.ensures _ _ c.run.ensures
