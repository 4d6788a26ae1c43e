-- `sealing::seal_under` meets its contract: the rest is asked, all but the tag is written, and behind it the tag, where there is a tag key.
use Rattle.std.proofs.Common.{◌≡◌, refl, sym, ◌∙◌, arith, length}
use Rattle.std.proofs.lemmas.Result.{err_from_is_err_and}
use Rattle.refusals.proofs.Numbers.{number_some}
use Rattle.sealing.proofs.Ways.{rest_refused, rest_room, tag_room, done_untagged, done_tagged}
use Rattle.sealing.proofs.seal_under.Goals as goal

pub returns-in_err-draft : goal.returns-in_err-draft
returns-in_err-draft c =
    let p = err_from_is_err_and c.from_residual.result c.from_residual.ensures.1 in
    rw (p.1, p.2) (rest_refused _ _ _ _ _ _ _ (rw c.layout.ensures at c.in_err-draft.ensures.number) (number_some _))

pub write_front-end-requires : goal.write_front-end-requires
write_front-end-requires c =
    let same = c.in_ok-draft.ensures.same in
    let room = rest_room _ c.args.sheet.sheet.now (length c.args.plain.now) (length c.args.out.now) (sym c.in_ok-draft.ensures.number) in
    rw (same.1, same.2) (omega arith)

pub returns-in-None : goal.returns-in-None
returns-in-None c =
    let same = c.in_ok-draft.ensures.same in
    let none = sym (rw c.layout.ensures at c.in_ok-draft.ensures.number) in
    let written = rw (same.0, same.1, same.2, c.layout.ensures) at c.write_front-end.ensures in
    done_untagged c.args.tag_schedule c.args.schedule.schedule c.args.sheet.sheet.now c.args.plain.now c.args.out.now c.args.sheet.headed
    none
    c.in-None.is _ _ written.0 written.1

pub slice_bounds-copy_from_slice-end : goal.slice_bounds-copy_from_slice-end
slice_bounds-copy_from_slice-end c =
    let same = c.in_ok-draft.ensures.same in
    let none = sym (rw c.layout.ensures at c.in_ok-draft.ensures.number) in
    let written = rw (same.0, same.1, same.2, c.layout.ensures) at c.write_front-end.ensures in
    let room = tag_room c.args.tag_schedule c.args.schedule.schedule c.args.sheet.sheet.now c.args.plain.now c.args.out.now
    c.args.sheet.headed none c.in-Some.tag_schedule c.in-Some.is in
    let long : length c.write_front-end.new.out ≡ length c.args.out.now = c.write_front-end.auto.out in
    omega (arith, room, written.0, long)

pub returns-in-Some : goal.returns-in-Some
returns-in-Some c =
    let same = c.in_ok-draft.ensures.same in
    let none = sym (rw c.layout.ensures at c.in_ok-draft.ensures.number) in
    let written = rw (same.0, same.1, same.2, c.layout.ensures) at c.write_front-end.ensures in
    done_tagged c.args.tag_schedule c.args.schedule.schedule c.args.sheet.sheet.now c.args.plain.now c.args.out.now c.args.sheet.headed none
    c.in-Some.tag_schedule c.in-Some.is c.write_front-end.result _ c.write_front-end.new.out c.copy_from_slice.new.self _ written.0
    written.1
    (omega arith) (c.copy_from_slice.ensures.after ∙ c.tag_good-tag.ensures.tag) refl
