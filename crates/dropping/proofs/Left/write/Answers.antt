-- `dropping::Left::write` meets its contract: the room is asked for first, and where there is a tag, it is that of all that was written.
use Rattle.std.proofs.Common.{◌≡◌, [], refl, sym, ap, ◌∙◌, ◌++◌, ◌+◌, ◌-◌, List, ℕ, length, drop, append-nil, arith}
use Rattle.circuit.specs.declared.GoodSchedule.{GoodSchedule}
use Rattle.cmac.specs.Tag.{tag_under}
use Rattle.header.specs.Fields.{tag_size}
use Rattle.codec.proofs.Tagging.{tagged_done}
use Rattle.dropping.specs.Internal.{layout_in, front_left, tag_in}
use Rattle.dropping.proofs.Ways.{front_length, marked_short, marked_done}
use Rattle.dropping.proofs.Left.write.Goals as goal

pub returns-then-out-whole : goal.returns-then-out-whole
returns-then-out-whole c =
    let whole = c.whole_length-whole.ensures in
    let left = c.args.self.now in
    marked_short left.tag_schedule left.named left.file.now _ (omega (arith, c.if-out-whole.true))

pub returns-in_default : goal.returns-in_default
unfolding tag_size
returns-in_default c =
    let left = c.args.self.now in
    let before : List ℕ = c.args.out.now in
    let whole = c.whole_length-whole.ensures in
    let none = c.in_default.is in
    let size : tag_size (layout_in left.tag_schedule) ≡ 0 = rw none in
    let untagged : tag_in left.tag_schedule (front_left left.named left.file.now) ≡ [] = rw none in
    let written = c.write_front-end.ensures in
    marked_done left.tag_schedule left.named left.file.now before c.write_front-end.result c.write_front-end.new.out
    (omega (arith, c.if-out-whole.false))
    (omega (arith, front_length left.named left.file.now left.whole, size, ap tag_size left.laid))
    (written.1
    ∙ ap (λ (f : List ℕ). f ++ drop c.write_front-end.result before)
    (sym (append-nil (front_left left.named left.file.now))
    ∙ ap (λ (t : List ℕ). front_left left.named left.file.now ++ t) (sym untagged)))

pub slice_bounds-copy_from_slice-end : goal.slice_bounds-copy_from_slice-end
unfolding tag_size
slice_bounds-copy_from_slice-end c =
    let left = c.args.self.now in
    let size : tag_size (layout_in left.tag_schedule) ≡ 16 = rw c.in-Some.is in
    omega (
      arith,
      front_length left.named left.file.now left.whole,
      size,
      ap tag_size left.laid,
      c.whole_length-whole.ensures,
      c.if-out-whole.false,
      c.write_front-end.ensures.0,
    )

pub returns : goal.returns
unfolding tag_size
returns c =
    let left = c.args.self.now in
    let before : List ℕ = c.args.out.now in
    let front : List ℕ = front_left left.named left.file.now in
    let end : ℕ = c.write_front-end.result in
    let written = c.write_front-end.ensures in
    let t : GoodSchedule = c.in-Some.tag_schedule in
    let size : tag_size (layout_in left.tag_schedule) ≡ 16 = rw c.in-Some.is in
    let tag : tag_under t.schedule front ≡ tag_in left.tag_schedule front = rw c.in-Some.is in
    let put = c.copy_from_slice.ensures.after in
    let sixteen : length c.tag_good-tag.result ≡ 16 = omega arith in
    let done = tagged_done t front before c.write_front-end.new.out c.copy_from_slice.new.self _ end (end + 16 - end) (end + 16) written.0
    written.1 (put ∙ c.tag_good-tag.ensures.tag) (omega (arith, sixteen, ap length put)) refl (omega arith)
    in
    marked_done left.tag_schedule left.named left.file.now before (end + 16) _
    (omega (arith, c.whole_length-whole.ensures, c.if-out-whole.false))
    (omega (arith, front_length left.named left.file.now left.whole, size, ap tag_size left.laid, written.0))
    (done.1 ∙ ap (λ (x : List ℕ). (front ++ x) ++ drop (end + 16) before) tag)
