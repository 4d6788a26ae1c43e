-- A result with a number in it, told by its refusal.
-- Assumes nothing.
use mathlib.Core.Path.{◌≡◌, refl, ap, ◌∙◌}
use Prim.Native.Nat.{ℕ}
use Rattle.std.specs.Prelude.{Result, Ok, Err}
use Rattle.refusals.specs.Answers.{answer, refusal_in}
use Rattle.refusals.specs.declared.Refusal.{Refusal}
use Rattle.refusals.specs.Numbers.{number_in, answer_of}
use Rattle.refusals.proofs.Answers.{refusal_answer}

pub number_told : (r : Result ℕ Refusal) → number_in r ≡ refusal_in (answer_of r)
number_told (Ok n) = refl
number_told (Err e) = refl

pub number_answered : (r : Result ℕ Refusal) (n v : ℕ) → answer_of r ≡ answer n v → number_in r ≡ n
number_answered r n v e = number_told r ∙ ap refusal_in e ∙ refusal_answer n v
