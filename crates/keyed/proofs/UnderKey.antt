-- A run under a key, case by case: refused for its key or its direction, and else the run under the schedule.
-- Assumes nothing.
use mathlib.Core.Path.{◌≡◌, refl, sym, ap, ◌∙◌}
use mathlib.Core.Bool.{true}
use mathlib.Core.List.{List, ◌++◌}
use Prim.Native.Nat.{ℕ, zero, suc}
use lib.ListN.{length}
use Rattle.refusals.specs.declared.Refusal.{Refusal}
use Rattle.std.specs.Prelude.{Result, Err, ⊤}
use Rattle.refusals.specs.Numbers.{number, number_in}
use Rattle.refusals.specs.Cases.{first_of}
use Rattle.refusals.specs.Answers.{unless_refused}
use Rattle.refusals.specs.Shared.{good_key, key_cases, direction_cases, good_rounds, whole_cases}
use Rattle.refusals.proofs.Cases.{first_stop, first_pass}
use Rattle.refusals.proofs.Numbers.{number_some}
use Rattle.refusals.proofs.Shared.{key_positive, key_good, direction_positive}
use Rattle.blocks.specs.Runs.{each_block}
use Rattle.circuit.specs.Run.{encrypted, run_number, run_bytes, Ran}
use Rattle.circuit.specs.declared.Schedule.{Schedule}
use Rattle.circuit.proofs.Runs.{number_length}
use Rattle.expansion.specs.KeySchedule.{schedule_of}
use Rattle.expansion.proofs.KeyLengths.{good_rounds_lem}
use Rattle.expansion.proofs.Reversal.{decryption_good}
use Rattle.keyed.specs.KeyRun.{directed, key_run_cases, key_run_number, key_run_bytes, RanUnderKey}

-- ---- the number

pub number_key : (n d len : ℕ) → (first_of (key_cases n) ≡ 0 → ⊥) → key_run_number n d len ≡ first_of (key_cases n)
unfolding key_run_cases
number_key n d len h = first_stop (key_cases n) (direction_cases d ++ whole_cases len) h

-- where the key is good, the direction is asked
number_good_key : (n d len : ℕ) → first_of (key_cases n) ≡ 0 → key_run_number n d len ≡ first_of (direction_cases d ++ whole_cases len)
unfolding key_run_cases
number_good_key n d len e = first_pass (key_cases n) (direction_cases d ++ whole_cases len) (key_positive n) e

number_direction : (n d len : ℕ) → first_of (key_cases n) ≡ 0 → (first_of (direction_cases d) ≡ 0 → ⊥)
    → key_run_number n d len ≡ first_of (direction_cases d)
number_direction n d len e h = number_good_key n d len e ∙ first_stop (direction_cases d) (whole_cases len) h

-- and where that is good too, the run's length
pub number_whole : (n d len : ℕ) → first_of (key_cases n) ≡ 0 → first_of (direction_cases d) ≡ 0
    → key_run_number n d len ≡ first_of (whole_cases len)
number_whole n d len e h = number_good_key n d len e ∙ first_pass (direction_cases d) (whole_cases len) (direction_positive d) h

-- ---- the run

module _ (key : List ℕ) (d : ℕ) (xs : List ℕ) where
  bytes_refused : (key_run_number (length key) d (length xs) ≡ 0 → ⊥) → key_run_bytes key d xs ≡ xs
  unfolding key_run_bytes
  bytes_refused h = by_number (key_run_number (length key) d (length xs)) h
    where
      by_number : (k : ℕ) → (k ≡ 0 → ⊥) → unless_refused k (each_block (encrypted (directed (schedule_of key) d)) xs) xs ≡ xs
      by_number zero h = absurd (h refl)
      by_number (suc k) h = refl

  refused : (e : Refusal) → number e ≡ key_run_number (length key) d (length xs) → RanUnderKey key d xs (number e) xs
  refused e told = record { number = told; bytes = sym (bytes_refused (λ q. number_some e (told ∙ q))) }

  -- refused for its key, the run is left alone
  pub refused_key : (r : Result ⊤ Refusal) (e : Refusal) → r ≡ Err e → number e ≡ first_of (key_cases (length key))
      → RanUnderKey key d xs (number_in r) xs
  refused_key r e is told = rw is (refused e (told ∙ sym (number_key (length key) d (length xs) (λ q. number_some e (told ∙ q)))))

  -- and refused for its direction
  pub refused_direction : (r : Result ⊤ Refusal) (e : Refusal) → r ≡ Err e → 0 ≡ first_of (key_cases (length key))
      → number e ≡ first_of (direction_cases d)
      → RanUnderKey key d xs (number_in r) xs
  refused_direction r e is good told =
      rw is (refused e (told ∙ sym (number_direction (length key) d (length xs) (sym good) (λ q. number_some e (told ∙ q)))))

-- the schedule for a direction has a good round count
pub directed_rounds : (key : List ℕ) (d : ℕ) → good_key (length key) ≡ true → good_rounds (directed (schedule_of key) d).rounds ≡ true
directed_rounds key zero e = good_rounds_lem key e
directed_rounds key (suc d) e =
    let g = good_rounds_lem key e in
    ap (λ (s : Schedule). good_rounds s.rounds) (decryption_good (schedule_of key) g) ∙ g

-- where key and direction are good, what is left is the run under the schedule
pub under_schedule : (key : List ℕ) (d : ℕ) (prepared s : Schedule) (xs ys : List ℕ) (r : ℕ) → 0 ≡ first_of (key_cases (length key))
    → prepared ≡ schedule_of key → 0 ≡ first_of (direction_cases d) → s ≡ directed prepared d → Ran s xs r ys
    → RanUnderKey key d xs r ys
unfolding run_bytes key_run_bytes
under_schedule key d prepared s xs ys r e made h turned ran =
    let t : Schedule = directed (schedule_of key) d in
    let same : s ≡ t = turned ∙ ap (λ (u : Schedule). directed u d) made in
    let n : run_number t.rounds (length xs) ≡ key_run_number (length key) d (length xs) =
    number_length t.rounds (length xs) (directed_rounds key d (key_good (length key) (sym e)))
    ∙ sym (number_whole (length key) d (length xs) (sym e) (sym h))
    in
    record {
      number = ran.number ∙ ap (λ (u : Schedule). run_number u.rounds (length xs)) same ∙ n;
      bytes =
          ran.bytes
          ∙ ap (λ (u : Schedule). run_bytes u xs) same
          ∙ ap (λ (k : ℕ). unless_refused k (each_block (encrypted t) xs) xs) n;
    }
