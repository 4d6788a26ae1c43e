-- `expansion::expand` meets its contract: the number tells the case of a bad key or of a good one.
use Rattle.std.proofs.Common.{◌≡◌, List, ℕ, ◌+◌, ◌≤◌, [], get_or, sym, ap₂, ◌∙◌, arith}
use Rattle.refusals.specs.Cases.{first_of}
use Rattle.refusals.specs.Shared.{key_cases}
use Rattle.expansion.specs.KeySchedule.{key_bytes, rounds_for}
use Rattle.expansion.proofs.KeyLengths.{number_good, schedule_good, same_schedule}
use Rattle.expansion.proofs.expand.Goals as goal

most : (n rounds : ℕ) → 0 ≡ first_of (key_cases n) → rounds ≡ rounds_for n → rounds ≤ 16
most n rounds told e = rw e (number_good n (sym told)).most

pub overflow_add-rounds : goal.overflow_add-rounds
overflow_add-rounds c =
    let h = most _ _ c.in_ok-rounds.ensures.number c.in_ok-rounds.ensures.rounds in
    omega arith

pub key_bytes-keys-requires-clause-few : goal.key_bytes-keys-requires-clause-few
key_bytes-keys-requires-clause-few c =
    let h = most _ _ c.in_ok-rounds.ensures.number c.in_ok-rounds.ensures.rounds in
    omega arith

pub key_bytes-keys-requires-clause-callable : goal.key_bytes-keys-requires-clause-callable
key_bytes-keys-requires-clause-callable c =
    let h = most _ _ c.in_ok-rounds.ensures.number c.in_ok-rounds.ensures.rounds in
    λ i l. omega arith

pub invariant_of-result : goal.invariant_of-result
invariant_of-result c =
    record { good = rw c.in_ok-rounds.ensures.rounds (number_good c.args.n (sym c.in_ok-rounds.ensures.number)).rounds }

pub returns : goal.returns
returns c =
    let n : ℕ = c.args.n in
    let told = c.in_ok-rounds.ensures in
    record {
      number = told.number;
      schedule =
          same_schedule _ _ told.rounds
          (c.key_bytes-keys.ensures (λ i. get_or c.encryption_keys-all.result i []) (λ i k h p. p)
          ∙ ap₂ (λ (ks : List (List ℕ)) (m : ℕ). key_bytes (λ (i : ℕ). get_or ks i []) (m + 1)) c.encryption_keys-all.ensures told.rounds)
          ∙ sym (schedule_good n c.args.words (number_good n (sym told.number)));
    }
