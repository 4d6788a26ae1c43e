-- Jobs dropped, the answer told by its refusal.
-- Assumes nothing.
use mathlib.Core.Path.{◌≡◌, ap, ◌∙◌}
use mathlib.Core.List.{List}
use Prim.Native.Nat.{ℕ}
use Rattle.refusals.specs.Answers.{Answer, refusal_in, written_for}
use Rattle.refusals.proofs.Answers.{refusal_answer}
use Rattle.dropping.specs.Drop.{dropped_file, Drops}
use Rattle.benchlib.specs.Dropping.{BenchDrops}

pub bench_drops : (key tag_key file list before after : List ℕ) (a : Answer) (r : ℕ) → r ≡ refusal_in a
    → Drops key tag_key file list before a after → BenchDrops key tag_key file list before r after
bench_drops key tag_key file list before after a r e d = record {
  refusal = e ∙ ap refusal_in d.answered ∙ refusal_answer _ _;
  bytes = d.bytes ∙ ap (λ (b : Answer). written_for b (dropped_file key tag_key file list) before) d.answered;
}
