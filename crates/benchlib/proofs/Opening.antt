-- An answer told by its refusal.
-- Assumes nothing.
use mathlib.Core.Path.{◌≡◌, ap, ◌∙◌}
use mathlib.Core.List.{List}
use Prim.Native.Nat.{ℕ}
use Rattle.refusals.specs.Answers.{Answer, refusal_in, written_for}
use Rattle.refusals.proofs.Answers.{refusal_answer}
use Rattle.expansion.specs.KeySchedule.{schedule_of}
use Rattle.opening.specs.Open.{plain_range, Opens}
use Rattle.benchlib.specs.Opening.{BenchOpens}

pub bench_opens : (key tag_key file number : List ℕ) (first count : ℕ) (before after : List ℕ) (a : Answer) (r : ℕ) → r ≡ refusal_in a
    → Opens key tag_key file number first count before a after → BenchOpens key tag_key file number first count before r after
bench_opens key tag_key file number first count before after a r e o = record {
  refusal = e ∙ ap refusal_in o.answered ∙ refusal_answer _ count;
  bytes = o.bytes ∙ ap (λ (b : Answer). written_for b (plain_range (schedule_of key) file number first count) before) o.answered;
}
