-- `dropping::Left::write_directory` meets its contract: after i turns the entries of the jobs left of the first i are written, and `start`
-- is where the next body begins.
use Rattle.std.proofs.Common.{◌≡◌, ◌++◌, ◌+◌, ◌-◌, List, Bool, ℕ, refl, sym, ap, ap₂, ◌∙◌, length, drop, arith}
use lib.ListN.{length-append}
use Rattle.bodies.specs.Bodies.{body_at}
use Rattle.codec.specs.Jobs.{Job, entry_of, directory_from, bodies_in}
use Rattle.codec.specs.Archive.{job_at}
use Rattle.dropping.specs.Internal.{left_of}
use Rattle.dropping.proofs.Entries.{dropped_next, directory_next, size_next, count_next, kept_fits, copied_next, copied_all}
use Rattle.dropping.proofs.Left.write_directory.Goals as goal
use Rattle.dropping.proofs.Left.write_directory.Goals.{then-not-goes, else-not-goes}

pub loop-i-init : goal.loop-i-init
unfolding left_of bodies_in directory_from
loop-i-init c =
    record { started = omega arith; bounded = omega arith; counted = omega arith; sized = refl; written = refl }

pub slice_bounds-copy_from_slice-end : goal.slice_bounds-copy_from_slice-end
slice_bounds-copy_from_slice-end c =
    let marks : List Bool = c.marks-goes-items.result.now in
    let fits = kept_fits marks c.args.self.now.file.now c.loop-i.i c.if-not-goes.true c.loop-i-test.true in
    let all = ap length c.marks-goes-items.ensures.2 in
    omega (arith, fits.0, all, c.requires, c.loop-i.invariant.counted)

pub loop-i-preserved : goal.loop-i-preserved
loop-i-preserved c =
    let marks : List Bool = c.marks-goes-items.result.now in
    let file : List ℕ = c.args.self.now.file.now in
    let from : ℕ = 20 + length c.args.run.now in
    let i : ℕ = c.loop-i.i in
    let at : ℕ = c.loop-i.at in
    let inv = c.loop-i.invariant in
    elim c.if-not-goes.branch [
      | then-not-goes w ↦
          let kept = w.if-not-goes.true in
          let size = w.size_at-size.ensures in
          let entry : List ℕ = entry_of (job_at file i).number c.loop-i.start (length (body_at file i)) in
          let is : w.entry-entry.result ≡ entry =
          w.entry-entry.ensures ∙ ap₂ (λ (n : List ℕ) (k : ℕ). entry_of n c.loop-i.start k) w.job_number.ensures size.0
          in
          let sixteen : length entry ≡ 16 = sym (ap length is) ∙ omega arith in
          let end : at + length entry ≡ c.if-not-goes.at = omega arith in
          let next = directory_next marks file i kept from c.loop-i.start inv.started in
          let before : List ℕ = directory_from from (left_of marks file i) in
          let put : c.if-not-goes.run ≡ (before ++ entry) ++ drop (at + length entry) c.args.run.now =
          w.run-is
          ∙ copied_next c.loop-i.run before c.args.run.now entry _ at (at + 16 - at) inv.written inv.sized (omega arith)
          (w.copy_from_slice.ensures.after ∙ is)
          in
          record {
            started = omega (arith, size.0, inv.started, size_next marks file i kept);
            bounded = omega (arith, size.1, inv.bounded);
            counted = omega (arith, inv.counted, count_next marks file i kept);
            sized = omega (arith, inv.sized, ap length next, length-append before entry);
            written =
                put
                ∙ ap₂ (λ (d : List ℕ) (n : ℕ). d ++ drop n c.args.run.now) next end;
          }
      | else-not-goes w ↦
          let same = dropped_next marks file i w.if-not-goes.false in
          let size = ap (λ (js : List Job). length (bodies_in js)) same in
          let count = ap (λ (js : List Job). length js) same in
          record {
            started = omega (arith, inv.started);
            bounded = omega (arith, inv.bounded);
            counted = omega (arith, inv.counted);
            sized = w.at-is ∙ inv.sized ∙ ap (λ (js : List Job). length (directory_from from js)) same;
            written =
                rw (w.run-is, w.at-is) (inv.written ∙ ap (λ (js : List Job). directory_from from js ++ drop at c.args.run.now) same);
          }
    ]

pub returns : goal.returns
returns c =
    let marks : List Bool = c.marks-goes-items.result.now in
    let file : List ℕ = c.args.self.now.file.now in
    let inv = c.loop-i.invariant in
    let all : c.loop-i.i ≡ length marks = omega arith in
    let same = ap (left_of marks file) all ∙ c.marks-goes-items.ensures.2 in
    copied_all c.loop-i.run _ c.args.run.now c.loop-i.at inv.written (omega (arith, inv.counted, ap length same, c.requires))
    ∙ ap₂ (λ (n : ℕ) (js : List Job). directory_from (20 + n) js) c.requires same
