-- `cmac::verify_under` meets its contract: a good schedule leaves the cases of the tag.
use Rattle.refusals.proofs.Shared.{rounds_positive}
use Rattle.cmac.proofs.Answers.{taken, verify_asked}
use Rattle.cmac.proofs.verify_under.Goals as goal

pub returns : goal.returns
returns c =
    let a = c.in_ok-try_from.ensures in
    verify_asked _ _ _ _ _ _ (rounds_positive _) a.number (taken _ _ a) c.verify_good.ensures.good
