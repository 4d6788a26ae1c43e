-- `cmac::tag_under` meets its contract: the tag is made under the schedule that was taken for a good one.
use Rattle.cmac.proofs.Answers.{tags_under}
use Rattle.cmac.proofs.tag_under.Goals as goal

pub returns : goal.returns
returns c = tags_under c.args.schedule c.args.run.now _ _ c.in_ok-try_from.ensures c.tag_good.ensures.tag
