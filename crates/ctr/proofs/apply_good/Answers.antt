-- `ctr::apply_good` meets its contract: a good schedule is not refused.
use Rattle.ctr.proofs.Applied.{applied_good}
use Rattle.ctr.proofs.apply_good.Goals as goal

pub returns-clause-applied : goal.returns-clause-applied
returns-clause-applied c = let a = c.args in applied_good _ _ _ _ _ a.schedule.good c.add.ensures
