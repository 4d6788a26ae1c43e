-- `sealing::seal` meets its contract: the sheet is asked first, then the key file, the tag key and the rest.
use Rattle.std.proofs.Common.{sym}
use Rattle.std.proofs.lemmas.Result.{err_from_is_err_and}
use Rattle.refusals.proofs.Numbers.{number_some}
use Rattle.sealing.proofs.Ways.{sheet_refused, key_file_refused, tag_key_refused, sealed_under}
use Rattle.sealing.proofs.seal.Goals as goal

pub returns-in_err-sheet : goal.returns-in_err-sheet
returns-in_err-sheet c =
    let p = err_from_is_err_and c.from_residual.result c.from_residual.ensures.1 in
    rw (p.1, p.2) (sheet_refused _ _ _ _ _ _ c.in_err-sheet.ensures.number (number_some _))

pub returns-in_err-schedule : goal.returns-in_err-schedule
returns-in_err-schedule c =
    let p = err_from_is_err_and c.from_residual-in_err-schedule.result c.from_residual-in_err-schedule.ensures.1 in
    rw (p.1, p.2) (key_file_refused _ _ _ _ _ (sym c.in_ok-sheet.ensures.number) _
    (rw c.in_ok-sheet.ensures.same at c.in_err-schedule.ensures.number) (number_some _))

pub returns-in_err-tag_schedule : goal.returns-in_err-tag_schedule
returns-in_err-tag_schedule c =
    let p = err_from_is_err_and c.from_residual-in_err-tag_schedule.result c.from_residual-in_err-tag_schedule.ensures.1 in
    rw (p.1, p.2) (tag_key_refused _ _ _ _ _ (sym c.in_ok-sheet.ensures.number)
    (sym (rw c.in_ok-sheet.ensures.same at c.in_ok-schedule.ensures.number)) _ c.in_err-tag_schedule.ensures.number (number_some _))

pub returns : goal.returns
returns c =
    let a = c.args in
    sealed_under a.key_file.now a.tag_key.now a.sheet.now a.plain.now a.out.now (sym c.in_ok-sheet.ensures.number)
    (sym (rw c.in_ok-sheet.ensures.same at c.in_ok-schedule.ensures.number)) (sym c.in_ok-tag_schedule.ensures.number) _ _ _ _
    (rw c.in_ok-sheet.ensures.same at c.in_ok-schedule.ensures.same) c.in_ok-tag_schedule.ensures.made
    (rw c.in_ok-sheet.ensures.same at c.seal_under.ensures)
