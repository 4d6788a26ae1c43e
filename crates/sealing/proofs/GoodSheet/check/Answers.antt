-- `sealing::GoodSheet::check` meets its contract: what is not refused has the facts.
use Rattle.std.proofs.Common.{sym}
use Rattle.sheet.proofs.Cases.{sheet_good, key_size_good}
use Rattle.sealing.proofs.GoodSheet.check.Goals as goal

pub invariant_of-result : goal.invariant_of-result
invariant_of-result c =
    let good = sheet_good c.args.sheet.now (sym c.in_ok-check.ensures) in
    record { headed = good.five; sized = key_size_good c.args.sheet.now good.sized }
