-- An archive sealed, its answer told by its refusal.
-- Assumes nothing.
use mathlib.Core.Path.{◌≡◌, ap, ◌∙◌}
use mathlib.Core.List.{List}
use Prim.Native.Nat.{ℕ}
use Rattle.refusals.specs.Answers.{Answer, refusal_in, written_for}
use Rattle.refusals.proofs.Answers.{refusal_answer}
use Rattle.sealing.specs.Seal.{sealed_file, Seals}
use Rattle.benchlib.specs.Sealing.{BenchSeals}

pub bench_seals : (key_file tag_key sheet plain before after : List ℕ) (a : Answer) (r : ℕ) → r ≡ refusal_in a
    → Seals key_file tag_key sheet plain before a after → BenchSeals key_file tag_key sheet plain before r after
bench_seals key_file tag_key sheet plain before after a r e s = record {
  refusal = e ∙ ap refusal_in s.answered ∙ refusal_answer _ _;
  bytes = s.bytes ∙ ap (λ (b : Answer). written_for b (sealed_file key_file tag_key sheet plain) before) s.answered;
}
