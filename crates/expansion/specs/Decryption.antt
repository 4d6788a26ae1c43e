-- The decryption round keys dk1 to dk(n + 1) of RFC 5794, section 2.3.2 (01's turning round): the keys that n rounds use in reverse order,
-- all but the first and the last through the diffusion layer. A round count other than 12, 14 or 16 gives a schedule of no rounds and zero
-- keys.
-- Assumes nothing.
use Rattle.std.specs.Prelude.{◌≡◌, cond, ◌||◌, List, ℕ, suc, ◌-◌, eqb, Result}
use Rattle.refusals.specs.declared.Refusal.{Refusal}
use Rattle.refusals.specs.Cases.{first_of}
use Rattle.refusals.specs.Numbers.{number_in}
use Rattle.refusals.specs.Shared.{good_rounds, rounds_cases}
use Rattle.diffusion.specs.Diffusion.{diffusion}
use Rattle.circuit.specs.Circuit.{key_at}
use Rattle.circuit.specs.declared.Schedule.{Schedule}
use Rattle.circuit.specs.declared.GoodSchedule.{GoodSchedule}
use Rattle.circuit.specs.Good.{no_schedule, schedule_in}
use Rattle.expansion.specs.KeySchedule.{key_bytes}

-- decryption key i of the keys ks for n rounds, both counted from 0
unfoldable pub decryption_key : ℕ → List ℕ → ℕ → List ℕ
decryption_key n ks i = cond (eqb i 0 || eqb i n) (key_at ks (n - i)) (diffusion (key_at ks (n - i)))

-- the key bytes of the decryption schedule: n + 1 keys are used
unfoldable pub decryption_keys : ℕ → List ℕ → List ℕ
decryption_keys n ks = key_bytes (decryption_key n ks) (suc n)

-- the schedule that undoes s (01's turning round)
unfoldable pub decryption_of : Schedule → Schedule
decryption_of s =
    cond (good_rounds s.rounds) (record { rounds = s.rounds; keys = decryption_keys s.rounds s.keys }) no_schedule

-- the contract of the decryption schedule: 01's number of the result, and the schedule in it
pub record Reverses (s : Schedule) (r : Result GoodSchedule Refusal) : Type 0 where
  pub number : number_in r ≡ first_of (rounds_cases s.rounds)
  pub schedule : schedule_in r ≡ decryption_of s
