-- `expansion::reversed` meets its contract: its keys are the decryption keys of the definition, and a good round count is not
-- refused.
use Rattle.std.proofs.Common.{◌≡◌, suc, ◌+◌, refl, sym, ap, ◌∙◌, arith}
use Rattle.refusals.proofs.Shared.{counted, rounds_0}
use Rattle.expansion.specs.KeySchedule.{key_bytes}
use Rattle.expansion.specs.Decryption.{decryption_key, decryption_keys}
use Rattle.expansion.proofs.KeyLengths.{same_schedule}
use Rattle.expansion.proofs.Reversal.{decryption_good}
use Rattle.expansion.proofs.reversed.Goals as goal

pub overflow_add-rounds : goal.overflow_add-rounds
overflow_add-rounds c =
    let most = (counted _ c.args.good.good).most in
    omega arith

pub key_bytes-keys-requires-clause-few : goal.key_bytes-keys-requires-clause-few
key_bytes-keys-requires-clause-few c =
    let most = (counted _ c.args.good.good).most in
    omega arith

pub returns : goal.returns
unfolding decryption_keys
returns c =
    let s = c.args.good.schedule in
    let next : s.rounds + 1 ≡ suc s.rounds = omega arith in
    let same =
    same_schedule _ _ refl
    (c.key_bytes-keys.ensures (decryption_key s.rounds s.keys) (λ i k h p. p) ∙ ap (key_bytes (decryption_key s.rounds s.keys)) next)
    ∙ sym (decryption_good s c.args.good.good)
    in
    record { schedule = same; reverses = record { number = sym (rounds_0 s.rounds c.args.good.good); schedule = same } }
