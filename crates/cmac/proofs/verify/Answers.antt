-- `cmac::verify` meets its contract: a good key leaves the cases of the tag.
use Rattle.refusals.proofs.Shared.{key_positive}
use Rattle.cmac.proofs.Answers.{verify_asked}
use Rattle.cmac.proofs.verify.Goals as goal

pub returns : goal.returns
returns c =
    let p = c.in_ok-prepare.ensures in
    verify_asked _ _ _ _ _ _ (key_positive _) p.number p.schedule c.verify_good.ensures.good
