-- What a run under a schedule answers and leaves, by what its cases come to; and a run of one block.
-- Assumes nothing.
use mathlib.Core.Path.{◌≡◌, refl, sym, ap, ◌∙◌}
use mathlib.Core.Bool.{Bool, true, false}
use mathlib.Core.List.{List}
use Prim.Native.Nat.{ℕ, zero, suc, ◌%◌}
use native.Mathlib.Omega.{arith}
use lib.Dec.{eqb}
use lib.ListN.{length}
use borrow.Author.Tests.{eqb-true, eqb-false}
use Rattle.refusals.specs.declared.Refusal.{Refusal}
use Rattle.refusals.specs.Cases.{first_of}
use Rattle.refusals.specs.Answers.{unless_refused}
use Rattle.refusals.specs.Shared.{good_rounds, rounds_cases, whole_cases}
use Rattle.refusals.specs.Numbers.{number}
use Rattle.refusals.proofs.Cases.{first_stop, first_pass}
use Rattle.refusals.proofs.Numbers.{number_some}
use Rattle.refusals.proofs.Shared.{rounds_positive, rounds_0, rounds_3, rounds_good, rounds_bad, whole_0, whole_4}
use Rattle.blocks.specs.Runs.{each_block}
use Rattle.blocks.proofs.Runs.{each_one}
use Rattle.boxes.specs.Boxes.{box}
use Rattle.circuit.specs.Circuit.{aria}
use Rattle.circuit.specs.Run.{encrypted, run_cases, run_number, run_bytes, Ran}
use Rattle.circuit.specs.declared.Schedule.{Schedule}
use Rattle.circuit.proofs.Rounds.{length_circuit}

pub length_encrypted : (s : Schedule) (b : List ℕ) → length b ≡ 16 → length (encrypted s b) ≡ 16
unfolding aria
length_encrypted s b h = length_circuit box s.rounds s.keys b h

-- ---- the number

pub number_3 : (n len : ℕ) → good_rounds n ≡ false → run_number n len ≡ 3
unfolding run_cases
number_3 n len e = first_stop (rounds_cases n) (whole_cases len) (λ q. omega (arith, rounds_3 n e, q)) ∙ rounds_3 n e

-- where the round count is good, the length is asked
pub number_length : (n len : ℕ) → good_rounds n ≡ true → run_number n len ≡ first_of (whole_cases len)
unfolding run_cases
number_length n len e = first_pass (rounds_cases n) (whole_cases len) (rounds_positive n) (rounds_0 n e)

pub number_4 : (n len : ℕ) → good_rounds n ≡ true → (len % 16 ≡ 0 → ⊥) → run_number n len ≡ 4
number_4 n len e h = number_length n len e ∙ whole_4 len h

pub number_0 : (n len : ℕ) → good_rounds n ≡ true → len % 16 ≡ 0 → run_number n len ≡ 0
number_0 n len e h = number_length n len e ∙ whole_0 len h

-- a refusal of the round count is that of the run
pub number_rounds : (e : Refusal) (n len : ℕ) → number e ≡ first_of (rounds_cases n) → number e ≡ run_number n len
unfolding run_cases
number_rounds e n len q = q ∙ sym (first_stop (rounds_cases n) (whole_cases len) (λ z. number_some e (q ∙ z)))

-- what a test of the round count tells, and what the tests of a run tell of its number
pub ruleset rounds_tests = (rounds_good, rounds_bad, number_some)

pub ruleset run_tests = (number_rounds, number_4, number_0, rounds_good)

-- a run that is done has a good round count and whole blocks
pub done_rounds : (n len : ℕ) → run_number n len ≡ 0 → good_rounds n ≡ true
done_rounds n len e = by_case (good_rounds n) refl
  where
    by_case : (a : Bool) → good_rounds n ≡ a → good_rounds n ≡ true
    by_case true p = p
    by_case false p = absurd (omega (arith, number_3 n len p, e))

pub done_whole : (n len : ℕ) → run_number n len ≡ 0 → len % 16 ≡ 0
done_whole n len e = by_case (eqb (len % 16) 0) refl
  where
    by_case : (a : Bool) → eqb (len % 16) 0 ≡ a → len % 16 ≡ 0
    by_case true p = eqb-true (len % 16) 0 p
    by_case false p = absurd (omega (arith, number_4 n len (done_rounds n len e) (eqb-false (len % 16) 0 p), e))

-- ---- the bytes

module _ (s : Schedule) (xs : List ℕ) where
  left : ℕ → List ℕ
  left k = unless_refused k (each_block (encrypted s) xs) xs

  pub bytes_done : run_number s.rounds (length xs) ≡ 0 → run_bytes s xs ≡ each_block (encrypted s) xs
  unfolding run_bytes left
  bytes_done e = ap left e

  pub bytes_refused : (run_number s.rounds (length xs) ≡ 0 → ⊥) → run_bytes s xs ≡ xs
  unfolding run_bytes
  bytes_refused h = by_number (run_number s.rounds (length xs)) h
    where
      by_number : (k : ℕ) → (k ≡ 0 → ⊥) → unless_refused k (each_block (encrypted s) xs) xs ≡ xs
      by_number zero h = absurd (h refl)
      by_number (suc k) h = refl

  -- ---- the contract of a run, refused and done

  pub ran_refused : (r : ℕ) → r ≡ run_number s.rounds (length xs) → (r ≡ 0 → ⊥) → Ran s xs r xs
  ran_refused r e h = record { number = e; bytes = sym (bytes_refused (λ q. h (e ∙ q))) }

  pub ran_done : (r : ℕ) (ys : List ℕ) → r ≡ run_number s.rounds (length xs) → r ≡ 0 → ys ≡ each_block (encrypted s) xs → Ran s xs 0 ys
  ran_done r ys e z d = record { number = sym z ∙ e; bytes = d ∙ sym (bytes_done (sym e ∙ z)) }

-- a run of one block is the block through the cipher
pub one_block : (s : Schedule) (b : List ℕ) (r : ℕ) (after : List ℕ) → good_rounds s.rounds ≡ true → length b ≡ 16 → Ran s b r after
    → after ≡ encrypted s b
one_block s b r after g l ran =
    ran.bytes ∙ bytes_done s b (number_0 s.rounds (length b) g (omega arith)) ∙ each_one (encrypted s) b l
