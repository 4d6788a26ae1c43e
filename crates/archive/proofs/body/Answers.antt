-- `archive::body` meets its contract: the part is empty where finding refuses, and a body that is found lies within the file.
use Rattle.archive.proofs.Finding.{body_refused, body_given_lem}
use Rattle.archive.proofs.body.Goals as goal

pub returns-in-Ok : goal.returns-in-Ok
returns-in-Ok c = body_given_lem _ _ _ _ _ _ c.in-Ok.ensures.answered c.body_at.ensures

pub returns-in-Err : goal.returns-in-Err
returns-in-Err c = body_refused _ _ _ _ _ _ c.in-Err.ensures.answered c.part.ensures.bytes
