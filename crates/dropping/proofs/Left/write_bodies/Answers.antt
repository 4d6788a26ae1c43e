-- `dropping::Left::write_bodies` meets its contract: after i turns the bodies of the jobs left of the first i are written.
use Rattle.octets.proofs.Parts.{overwritten_whole}
use Rattle.std.proofs.Common.{◌≡◌, ◌++◌, ◌+◌, ◌-◌, List, Bool, ℕ, refl, ap, ◌∙◌, length, drop, arith}
use Rattle.bodies.specs.Bodies.{body_at}
use Rattle.codec.specs.Jobs.{Job, bodies_in}
use Rattle.dropping.specs.Internal.{left_of}
use Rattle.dropping.proofs.Entries.{dropped_next, bodies_next, size_next, kept_fits, copied_next, copied_all}
use Rattle.dropping.proofs.Left.write_bodies.Goals as goal
use Rattle.dropping.proofs.Left.write_bodies.Goals.{then-not-goes, else-not-goes}

pub loop-i-init : goal.loop-i-init
unfolding left_of bodies_in
loop-i-init c = record { sized = refl; written = refl }

pub slice_bounds-copy-end : goal.slice_bounds-copy-end
slice_bounds-copy-end c =
    let marks : List Bool = c.marks-goes-items.result.now in
    let fits = kept_fits marks c.args.self.now.file.now c.loop-i.i c.if-not-goes.true c.loop-i-test.true in
    let all = ap (λ (js : List Job). length (bodies_in js)) c.marks-goes-items.ensures.2 in
    omega (arith, fits.1, all, c.size_at.ensures.0)

pub loop-i-preserved : goal.loop-i-preserved
loop-i-preserved c =
    let marks : List Bool = c.marks-goes-items.result.now in
    let file : List ℕ = c.args.self.now.file.now in
    let i : ℕ = c.loop-i.i in
    let at : ℕ = c.loop-i.at in
    let inv = c.loop-i.invariant in
    elim c.if-not-goes.branch [
      | then-not-goes w ↦
          let size = w.size_at.ensures.0 in
          let next = size_next marks file i w.if-not-goes.true in
          let end : at + length (body_at file i) ≡ c.if-not-goes.at = omega (arith, size) in
          let put : c.if-not-goes.run ≡ (bodies_in (left_of marks file i) ++ body_at file i)
          ++ drop (at + length (body_at file i)) c.args.run.now =
          w.run-is
          ∙ copied_next c.loop-i.run (bodies_in (left_of marks file i)) c.args.run.now (body_at file i) _ at (at + w.size_at.result - at)
          inv.written inv.sized (omega (arith, size))
          (w.copy.ensures
          ∙ overwritten_whole _ _ (omega (arith, size, ap length w.body_at.ensures.bytes))
          ∙ w.body_at.ensures.bytes) in
          record {
            sized = omega (arith, size, inv.sized);
            written = put ∙ ap (λ (b : List ℕ). b ++ drop (at + length (body_at file i)) c.args.run.now)
                (bodies_next marks file i w.if-not-goes.true)
                ∙ ap (λ (n : ℕ). bodies_in (left_of marks file (i + 1)) ++ drop n c.args.run.now) end;
          }
      | else-not-goes w ↦
          let same = dropped_next marks file i w.if-not-goes.false in
          record {
            sized = w.at-is ∙ inv.sized ∙ ap (λ (js : List Job). length (bodies_in js)) same;
            written = rw (w.run-is, w.at-is) (inv.written ∙ ap (λ (js : List Job). bodies_in js ++ drop at c.args.run.now) same);
          }
    ]

pub returns : goal.returns
returns c =
    let marks : List Bool = c.marks-goes-items.result.now in
    let file : List ℕ = c.args.self.now.file.now in
    let inv = c.loop-i.invariant in
    let all : c.loop-i.i ≡ length marks = omega arith in
    let same = ap (λ (k : ℕ). bodies_in (left_of marks file k)) all ∙ ap bodies_in c.marks-goes-items.ensures.2 in
    copied_all c.loop-i.run _ c.args.run.now c.loop-i.at inv.written (omega (arith, inv.sized, ap length same, c.requires)) ∙ same
