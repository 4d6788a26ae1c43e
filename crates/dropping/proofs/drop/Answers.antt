-- `dropping::drop` meets its contract: what is asked first, and then the room and the bytes.
use Rattle.std.proofs.Common.{sym}
use Rattle.std.proofs.lemmas.Result.{err_from_is_err_and}
use Rattle.dropping.proofs.Ways.{drop_refused, drop_written}
use Rattle.dropping.proofs.drop.Goals as goal

pub returns-in_err-left : goal.returns-in_err-left
returns-in_err-left c =
    let p = err_from_is_err_and c.from_residual.result c.from_residual.ensures.1 in
    rw (p.1, p.2) (drop_refused _ _ _ _ _ c.in_err-left.field-0.0 c.in_err-left.ensures.number)

pub returns : goal.returns
returns c =
    let a = c.args in
    let known = c.in_ok-left.ensures in
    drop_written a.key.now a.tag_key.now a.file.now a.list.now (sym known.number) _ known.left.1 a.out.now _ _ _ known.left.2
    (rw known.left.0 at c.write.ensures)
