-- `sealing::Draft::write_directory` meets its contract: after i turns the first i entries are written, and `start` is where the next body
-- begins.
use Rattle.std.proofs.Common.{◌≡◌, refl, ap, ap₂, ◌∙◌, arith, List, ◌++◌, ℕ, ◌+◌, ◌-◌, ◌*◌, ◌≤◌, length, drop, append-nil}
use lib.ListN.{drop_of_length-le}
use lib.Seq.{drop-drop}
use Rattle.blocks.specs.Blocks.{row}
use Rattle.blocks.proofs.Rows.{row_turn}
use Rattle.codec.specs.Jobs.{entry_of}
use Rattle.sheet.specs.Sheet.{lines, job_number_on, sizes_on}
use Rattle.sheet.proofs.LineLaws.{sizes_next, sizes_within}
use Rattle.sealing.specs.Internal.{entry_on, directory_on}
use Rattle.sealing.proofs.Written.{entry_sixteen}
use Rattle.sealing.proofs.Draft.write_directory.Goals as goal

pub loop-i-init : goal.loop-i-init
unfolding row sizes_on
loop-i-init c = record { started = omega arith; written = refl }

pub overflow_add-start-in-loop-i : goal.overflow_add-start-in-loop-i
overflow_add-start-in-loop-i c =
    let within = sizes_within c.args.self.now.sheet.now c.loop-i.i (omega arith) in
    omega (arith, c.size-size.ensures, c.args.self.now.exact, c.args.self.now.small, c.args.self.now.few)

pub loop-i-preserved : goal.loop-i-preserved
loop-i-preserved c =
    let sheet : List ℕ = c.args.self.now.sheet.now in
    let from : ℕ = 20 + 16 * lines sheet in
    let i : ℕ = c.loop-i.i in
    let run : List ℕ = c.loop-i.run in
    let k : ℕ = 16 * i + 16 - 16 * i in
    let e : c.copy_from_slice.new.self ≡ entry_on sheet from i =
    c.copy_from_slice.ensures.after
    ∙ c.entry-entry.ensures
    ∙ ap₂ (λ (d : List ℕ) (m : ℕ). entry_of d m c.size-size.result) c.job_number.ensures c.loop-i.invariant.started
    ∙ ap (entry_of (job_number_on sheet i) (from + sizes_on sheet i)) c.size-size.ensures.0
    in
    let left : List ℕ = drop (16 * i) c.args.run.now in
    let next : 16 * i + 16 ≡ 16 * (i + 1) = omega arith in
    let rest : drop 16 left ≡ drop (16 * (i + 1)) c.args.run.now =
    drop-drop 16 (16 * i) c.args.run.now ∙ ap (λ (n : ℕ). drop n c.args.run.now) next
    in
    record {
      started = omega (arith, c.loop-i.invariant.started, c.size-size.ensures.0, sizes_next sheet i);
      written =
          row_turn (entry_on sheet from) i k run c.copy_from_slice.new.self left (omega arith)
          (λ j h. entry_sixteen sheet from j (omega arith)) c.loop-i.invariant.written e
          ∙ ap (λ (z : List ℕ). row (entry_on sheet from) (i + 1) ++ z) rest;
    }

pub returns : goal.returns
unfolding directory_on
returns c =
    let sheet : List ℕ = c.args.self.now.sheet.now in
    let rule : ℕ → List ℕ = entry_on sheet (20 + 16 * lines sheet) in
    let all : c.loop-i.i ≡ lines sheet = omega arith in
    let past : length c.args.run.now ≤ 16 * c.loop-i.i = omega arith in
    c.loop-i.invariant.written
    ∙ ap (λ (z : List ℕ). row rule c.loop-i.i ++ z) (drop_of_length-le c.args.run.now past)
    ∙ append-nil (row rule c.loop-i.i)
    ∙ ap (row rule) all
