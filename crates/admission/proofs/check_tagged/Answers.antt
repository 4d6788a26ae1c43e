-- `admission::check_tagged` meets its contract: the file of layout 2 is asked, then its last sixteen bytes are compared with the tag of
-- those before them.
use mathlib.Core.Path.{refl, sym}
use native.Mathlib.Omega.{arith}
use Rattle.std.proofs.lemmas.Result.{err_from_is_err_and}
use Rattle.refusals.specs.Shared.{rounds_cases}
use Rattle.refusals.proofs.Numbers.{number_some}
use Rattle.refusals.proofs.Shared.{rounds_0, rounds_positive}
use Rattle.cmac.proofs.Answers.{verify_asked}
use Rattle.admission.proofs.Tags.{file_header, tag_asked, tagged_file_lem, tagged_tag}
use Rattle.admission.proofs.check_tagged.Goals as goal

pub returns-in_err-check_file : goal.returns-in_err-check_file
returns-in_err-check_file c tag_key some made =
    let p = err_from_is_err_and c.from_residual.result c.from_residual.ensures.1 in
    let e = c.in_err-check_file in
    rw (p.1, p.2) (tagged_file_lem _ _ _ _ _ some _ made refl e.ensures (number_some e.field-0.0))

pub returns : goal.returns
returns c tag_key some made =
    let s = c.args.tag_schedule.schedule in
    let file = c.args.file.now in
    let none = sym c.in_ok-check_file.ensures in
    let good = file_header _ _ _ _ none in
    let long = good.long in
    let run = rw c.bodies_end-end.ensures at c.part.ensures.bytes in
    let tag = rw c.bodies_end-end.ensures at c.part-2.ensures.bytes in
    let rounds = c.args.tag_schedule.good in
    let asked = verify_asked (rounds_cases s.rounds) s s _ _ _ (rounds_positive s.rounds) (sym (rounds_0 s.rounds rounds)) refl
    c.verify_good.ensures.good in
    tagged_tag _ _ _ _ _ some _ made refl none (tag_asked file good.laid (omega arith) s _ _ _ rounds run tag asked)
