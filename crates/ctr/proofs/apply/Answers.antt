-- `ctr::apply` meets its contract: a schedule that is taken for a good one has the keystream added.
use Rattle.ctr.proofs.Applied.{applied}
use Rattle.ctr.proofs.apply.Goals as goal

pub returns : goal.returns
returns c =
    let a = c.args in
    applied a.schedule a.prefix a.first a.run.now _ _ c.in_ok-good.ensures c.apply_good.ensures.stream
