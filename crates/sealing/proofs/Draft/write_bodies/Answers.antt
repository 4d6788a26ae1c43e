-- `sealing::Draft::write_bodies` meets its contract: after i turns the first i bodies are sealed, and the rest is plain.
use Rattle.std.proofs.Common.{◌≡◌, refl, sym, ap, ap₂, ◌∙◌, arith, List, ◌++◌, ℕ, ◌+◌, ◌-◌, ◌≤◌, length, take, drop, append-nil, add-one}
use lib.ListN.{drop_of_length-le}
use Rattle.octets.proofs.Parts.{overwritten_whole}
use Rattle.blocks.specs.Blocks.{row}
use Rattle.ctr.specs.Counter.{keystream, add_stream}
use Rattle.opening.specs.Open.{prefix_of, under_keystream}
use Rattle.sheet.specs.Sheet.{archive_number_on, lines, job_number_on, sizes_on}
use Rattle.sheet.proofs.LineLaws.{sizes_next, sizes_within}
use Rattle.sealing.specs.Internal.{body_on, bodies_on}
use Rattle.sealing.proofs.Written.{bodies_turn}
use Rattle.sealing.proofs.Draft.write_bodies.Goals as goal

pub loop-i-init : goal.loop-i-init
unfolding row sizes_on
loop-i-init c = record { begun = refl; written = c.copy.ensures ∙ overwritten_whole _ _ (sym c.requires) }

pub overflow_add-end : goal.overflow_add-end
overflow_add-end c =
    let within = sizes_within c.args.self.now.sheet.now c.loop-i.i (omega arith) in
    omega (arith, c.args.self.now.exact, c.args.self.now.small)

pub slice_bounds-apply_good-end : goal.slice_bounds-apply_good-end
slice_bounds-apply_good-end c =
    let within = sizes_within c.args.self.now.sheet.now c.loop-i.i (omega arith) in
    omega (arith, c.args.self.now.exact)

pub loop-i-preserved : goal.loop-i-preserved
unfolding under_keystream
loop-i-preserved c =
    let sheet : List ℕ = c.args.self.now.sheet.now in
    let plain : List ℕ = c.args.self.now.plain.now in
    let s = c.args.schedule.schedule in
    let i : ℕ = c.loop-i.i in
    let at : ℕ = c.loop-i.at in
    let run : List ℕ = c.loop-i.run in
    let k : ℕ = at + c.size.result - at in
    let named : c.prefix-prefix.result ≡ prefix_of (archive_number_on sheet) (job_number_on sheet i) =
    c.prefix-prefix.ensures ∙ ap₂ prefix_of c.archive_number-archive.ensures c.job_number.ensures
    in
    let e : c.apply_good.new.run ≡ under_keystream s (archive_number_on sheet) (job_number_on sheet i) (take k (drop at run)) =
    c.apply_good.ensures.stream
    ∙ ap (λ (p : List ℕ). add_stream (keystream s p) 0 (take k (drop at run))) named
    in
    record {
      begun = omega (arith, c.loop-i.invariant.begun, c.size.ensures.0, sizes_next sheet i);
      written =
          bodies_turn s sheet plain c.args.self.now.exact i at k run c.apply_good.new.run (omega arith) c.loop-i.invariant.begun
          (omega (arith, c.size.ensures.0)) c.loop-i.invariant.written e
          ∙ ap (λ (j : ℕ). row (body_on s sheet plain) j ++ drop (sizes_on sheet j) plain) (sym (add-one i));
    }

pub returns : goal.returns
unfolding bodies_on
returns c =
    let plain : List ℕ = c.args.self.now.plain.now in
    let sheet : List ℕ = c.args.self.now.sheet.now in
    let rule : ℕ → List ℕ = body_on c.args.schedule.schedule sheet plain in
    let all : c.loop-i.i ≡ lines sheet = omega arith in
    let past : length plain ≤ sizes_on sheet (lines sheet) = omega (arith, c.args.self.now.exact) in
    c.loop-i.invariant.written
    ∙ ap (λ (j : ℕ). row rule j ++ drop (sizes_on sheet j) plain) all
    ∙ ap (λ (z : List ℕ). row rule (lines sheet) ++ z) (drop_of_length-le plain past)
    ∙ append-nil (row rule (lines sheet))
