-- `keyed::run` meets its contract: where neither key nor direction is refused, the run is that under the schedule for the direction.
use Rattle.std.proofs.Common.{rules}
use Rattle.keyed.proofs.UnderKey.{refused_key, refused_direction, under_schedule}
use Rattle.keyed.proofs.run.Goals as goal

pub returns-in_err-prepared : goal.returns-in_err-prepared
returns-in_err-prepared c = refused_key _ _ _ _ _ (search rules) c.in_err-prepared.ensures.number

pub returns-in_err-directed : goal.returns-in_err-directed
returns-in_err-directed c =
    refused_direction _ _ _ _ _ (search rules) c.in_ok-prepared.ensures.number c.in_err-directed.ensures.number

pub returns : goal.returns
returns c =
    let prepared = c.in_ok-prepared.ensures in
    let directed = c.in_ok-directed.ensures in
    under_schedule _ _ _ _ _ _ _ prepared.number prepared.schedule directed.number directed.schedule c.run_by.ensures
