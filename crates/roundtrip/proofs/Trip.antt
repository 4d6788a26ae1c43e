-- Demand 3 holds: both engines make of each block what the rounds make of it, and the rounds under the decryption keys undo the rounds.
-- Assumes nothing.
use mathlib.Core.Path.{◌≡◌, refl, sym, ap, ap₂, ◌∙◌}
use mathlib.Core.Bool.{Bool, true, false}
use mathlib.Core.List.{List}
use Prim.Native.Nat.{ℕ, ◌%◌}
use native.Mathlib.Omega.{arith}
use lib.Dec.{eqb}
use lib.ListN.{length}
use borrow.Author.Tests.{eqb-true, eqb-false}
use Rattle.blocks.specs.Runs.{each_block}
use Rattle.blocks.proofs.Runs.{each_length, each_undo}
use Rattle.diffusion.proofs.Laws.{diffusion_laws}
use Rattle.std.specs.Prelude.{Result, Ok, Err}
use Rattle.refusals.specs.declared.Refusal.{Refusal}
use Rattle.refusals.specs.Shared.{good_rounds}
use Rattle.circuit.specs.Run.{encrypted, run_number, Ran}
use Rattle.expansion.specs.Decryption.{decryption_of, Reverses}
use Rattle.circuit.specs.declared.Schedule.{Schedule}
use Rattle.circuit.specs.Good.{no_schedule, schedule_in}
use Rattle.circuit.specs.declared.GoodSchedule.{GoodSchedule}
use Rattle.refusals.specs.Numbers.{number}
use Rattle.refusals.proofs.Numbers.{number_some}
use Rattle.refusals.proofs.Shared.{rounds_0, rounds_good, rounds_bad}
use Rattle.circuit.proofs.Runs.{number_0, number_3, number_4, number_rounds, bytes_done, bytes_refused, length_encrypted}
use Rattle.expansion.proofs.Undo.{decryption_rounds, decrypt_encrypt}
use Rattle.roundtrip.specs.RoundTrip.{RanBy, ThereAndBack, DemandThree}
use Rattle.engines.specs.declared.Engine.{Engine}
use Rattle.engines.specs.declared.Engine.TheVariants.{Plain, Tables}

-- whichever the engine, its run is that of the contract
ran_by : (p : Engine) (s : Schedule) (xs : List ℕ) (r : ℕ) (ys : List ℕ) → RanBy p s xs r ys → Ran s xs r ys
ran_by Plain s xs r ys h = h
ran_by Tables s xs r ys h = h

-- ---- the three calls, where the schedule and the run are good

module _ (s : Schedule) (xs ys zs : List ℕ) (a c : ℕ) (r : Result GoodSchedule Refusal) (first : Ran s xs a ys) (reversed : Reverses s r)
    (second : Ran (schedule_in r) ys c zs) (good : good_rounds s.rounds ≡ true) (whole : length xs % 16 ≡ 0) where
  done : run_number s.rounds (length xs) ≡ 0
  done = number_0 s.rounds (length xs) good whole

  middle : ys ≡ each_block (encrypted s) xs
  middle = first.bytes ∙ bytes_done s xs done

  same_length : length ys ≡ length xs
  same_length = ap length middle ∙ each_length (encrypted s) (length_encrypted s) xs

  second_done : run_number (schedule_in r).rounds (length ys) ≡ 0
  second_done = ap₂ run_number (ap (λ (t : Schedule). t.rounds) reversed.schedule ∙ decryption_rounds s good) same_length ∙ done

  last : zs ≡ each_block (encrypted (schedule_in r)) ys
  last = second.bytes ∙ bytes_done (schedule_in r) ys second_done

  back : zs ≡ xs
  back =
      last
      ∙ ap₂ (λ (t : Schedule) (l : List ℕ). each_block (encrypted t) l) reversed.schedule middle
      ∙ each_undo (encrypted s) (length_encrypted s) (encrypted (decryption_of s)) (decrypt_encrypt s good) xs

  pub there_and_back : ThereAndBack s xs a ys r c zs
  there_and_back = record {
    first_done = first.number ∙ done;
    reversed_done = reversed.number ∙ rounds_0 s.rounds good;
    second_done = second.number ∙ second_done;
    middle = middle;
    last = last;
    back = back;
  }

pub demand_three : DemandThree
demand_three =
    record {
      mixing = diffusion_laws;
      round_trip = λ p q s xs good whole a ys r c zs calls.
          there_and_back s xs ys zs a c r (ran_by p s xs a ys calls.first) calls.reversed
          (ran_by q (schedule_in r) ys c zs calls.second) good whole;
    }

-- ---- the function that makes the three calls, on every input

-- where there is a decryption schedule, the second run answers what the first did, and the run is as it was
module _ (s : Schedule) (xs ys zs : List ℕ) (a c : ℕ) (t : GoodSchedule) (first : Ran s xs a ys) (reversed : Reverses s (Ok t))
    (second : Ran t.schedule ys c zs) where
  good : good_rounds s.rounds ≡ true
  good = rounds_good s.rounds (sym reversed.number)

  part_block : (length xs % 16 ≡ 0 → ⊥) → (c ≡ run_number s.rounds (length xs)) × (zs ≡ xs)
  part_block part =
      let refused = number_4 s.rounds (length xs) good part in
      let same : ys ≡ xs = first.bytes ∙ bytes_refused s xs (λ e. omega (arith, refused, e)) in
      let again = ap₂ run_number (ap (λ (u : Schedule). u.rounds) reversed.schedule ∙ decryption_rounds s good) (ap length same) in (
        second.number ∙ again,
        second.bytes ∙ bytes_refused t.schedule ys (λ e. omega (arith, again ∙ refused, e)) ∙ same,
      )

  whole_blocks : length xs % 16 ≡ 0 → (c ≡ run_number s.rounds (length xs)) × (zs ≡ xs)
  whole_blocks whole =
      let b = there_and_back s xs ys zs a c (Ok t) first reversed second good whole in
      (b.second_done ∙ sym (number_0 s.rounds (length xs) good whole), b.back)

  pub every_length : (c ≡ run_number s.rounds (length xs)) × (zs ≡ xs)
  every_length = by_length (eqb (length xs % 16) 0) refl
    where
      by_length : (b : Bool) → eqb (length xs % 16) 0 ≡ b → (c ≡ run_number s.rounds (length xs)) × (zs ≡ xs)
      by_length true e = whole_blocks (eqb-true (length xs % 16) 0 e)
      by_length false e = part_block (eqb-false (length xs % 16) 0 e)

-- where there is none, the first run was refused for the same reason
pub not_reversed : (s : Schedule) (xs ys : List ℕ) (a : ℕ) (e : Refusal) → Ran s xs a ys → Reverses s (Err e)
    → (number e ≡ run_number s.rounds (length xs)) × (ys ≡ xs)
not_reversed s xs ys a e first reversed =
    let told = number_rounds e s.rounds (length xs) reversed.number in
    (told, first.bytes ∙ bytes_refused s xs (λ z. number_some e (told ∙ z)))

-- and the second run, under a schedule of no rounds, is refused in turn
pub refused_again : (s : Schedule) (xs ys zs : List ℕ) (a c : ℕ) (e : Refusal) → Ran s xs a ys → Reverses s (Err e)
    → Ran no_schedule ys c zs → (c ≡ run_number s.rounds (length xs)) × (zs ≡ xs)
unfolding good_rounds
refused_again s xs ys zs a c e first reversed second =
    let bad = rounds_bad s.rounds (λ z. number_some e (reversed.number ∙ z)) in
    let three = number_3 no_schedule.rounds (length ys) refl in
    let left = (not_reversed s xs ys a e first reversed).1 in (
      second.number ∙ three ∙ sym (number_3 s.rounds (length xs) bad),
      second.bytes ∙ bytes_refused no_schedule ys (λ z. omega (arith, three, z)) ∙ left,
    )
