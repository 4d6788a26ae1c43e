-- What specs/Laws claims of CMAC with ARIA holds: both comparisons by the cases of any list before them.
-- Assumes nothing.
use mathlib.Core.Path.{◌≡◌, refl, sym, ap, ◌∙◌}
use mathlib.Core.Bool.{Bool, true, false, not}
use mathlib.Core.List.{List, [], ◌∷◌}
use Prim.Native.Nat.{ℕ}
use native.Mathlib.Omega.{arith}
use lib.ListN.{length}
use Rattle.std.specs.Prelude.{Result}
use Rattle.refusals.specs.Cases.{Case, when, first_of, positive}
use Rattle.refusals.specs.Answers.{unless_refused}
use Rattle.refusals.specs.Numbers.{number_in}
use Rattle.refusals.specs.declared.Refusal.{Refusal}
use Rattle.refusals.specs.Shared.{good_key, key_cases, good_rounds, rounds_cases}
use Rattle.refusals.proofs.Cases.{one_applies, first_none}
use Rattle.refusals.proofs.Shared.{key_positive, key_0, key_1, key_good, rounds_positive, rounds_0, rounds_3, rounds_good}
use Rattle.octets.specs.Equality.{same_bytes}
use Rattle.octets.proofs.Equality.{same_eq, eq_same, ne_same}
use Rattle.blocks.specs.Chains.{zero_block, chained}
use Rattle.blocks.proofs.XorBlock.{length_xor}
use Rattle.blocks.proofs.Chains.{length_chain}
use Rattle.circuit.specs.Run.{encrypted}
use Rattle.circuit.specs.declared.Schedule.{Schedule}
use Rattle.circuit.proofs.Runs.{length_encrypted}
use Rattle.expansion.specs.KeySchedule.{schedule_of}
use Rattle.cmac.specs.Cmac.{blocks_before, mac_of}
use Rattle.cmac.specs.Tag.{tag_under, tag_in, Tags, tag_cases, verify_cases, write_number}
use Rattle.cmac.specs.Laws.{TagSize, Compares, Comparison, ComparisonUnder, Writing, MadeVerifies}
use Rattle.cmac.proofs.Answers.{tag_positive, tag_0, tag_23, verify_before, verify_23, verify_0, verify_25, past_key, bad_key}

pub tag_size_lem : TagSize
unfolding tag_under mac_of
tag_size_lem s run =
    length_encrypted s _
    (length_xor (chained (encrypted s) zero_block (blocks_before run) run) _
    ∙ length_chain (encrypted s) zero_block (length_encrypted s) refl (blocks_before run) run)

module _ (cases : List Case) (p : positive cases ≡ true) (s : Schedule) (run tag : List ℕ) where
  -- yes is said where nothing is refused and the tag is the run's
  yes_cases : first_of (verify_cases cases s run tag) ≡ 0 → (first_of cases ≡ 0) × (tag ≡ tag_under s run)
  unfolding verify_cases
  yes_cases e =
      let past = first_none cases _ p e in
      let last = (first_none (tag_cases (length tag)) _ (tag_positive (length tag)) past.1).1 in
      (past.0, by_test (same_bytes (tag_under s run) tag) refl last)
    where
      by_test : (same : Bool) → same_bytes (tag_under s run) tag ≡ same → first_of (when (not same) 25 ∷ []) ≡ 0 → tag ≡ tag_under s run
      by_test true q z = sym (same_eq (tag_under s run) tag q)
      by_test false q z = absurd (omega (arith, one_applies true 25 refl, z))

  tag_cases_lem : first_of cases ≡ 0 → tag ≡ tag_under s run → first_of (verify_cases cases s run tag) ≡ 0
  tag_cases_lem z e = verify_0 cases p s run tag z (ap length e ∙ tag_size_lem s run) (eq_same (tag_under s run) tag (sym e))

  no_cases : first_of cases ≡ 0 → length tag ≡ 16 → (tag ≡ tag_under s run → ⊥) → first_of (verify_cases cases s run tag) ≡ 25
  no_cases z h n = verify_25 cases p s run tag z h (ne_same (tag_under s run) tag (λ e. n (sym e)))

-- both comparisons, by the cases that stand before the tag's
compares : (cases : List Case) → positive cases ≡ true → (good : Bool) (n : ℕ) → (first_of cases ≡ 0 → good ≡ true)
    → (good ≡ true → first_of cases ≡ 0) → (good ≡ false → first_of cases ≡ n) → (n ≡ 0 → ⊥) → (s : Schedule) (run tag : List ℕ)
    → Compares good n s run tag (first_of (verify_cases cases s run tag))
compares cases p good n back zero some h s run tag =
    record {
      only_yes = λ e. let r = yes_cases cases p s run tag e in (back r.0, r.1);
      always_yes = λ g e. tag_cases_lem cases p s run tag (zero g) e;
      no_25 = λ g l e. no_cases cases p s run tag (zero g) l e;
      length_23 = λ g l. verify_23 cases p s run tag (zero g) l;
      refused = λ b. verify_before cases p s run tag (λ q. h (sym (some b) ∙ q)) ∙ some b;
    }

pub comparison : Comparison
comparison key run tag =
    compares (key_cases (length key)) (key_positive (length key)) (good_key (length key)) 1 (key_good (length key)) (key_0 (length key))
    (key_1 (length key)) (λ q. omega (arith, q)) (schedule_of key) run tag

pub comparison_under : ComparisonUnder
comparison_under s run tag =
    compares (rounds_cases s.rounds) (rounds_positive s.rounds) (good_rounds s.rounds) 3 (rounds_good s.rounds)
    (rounds_0 s.rounds) (rounds_3 s.rounds) (λ q. omega (arith, q)) s run tag

pub writing : Writing
writing key run before r after w =
    record {
      done = λ g l. let n = past_key (length key) (length before) g ∙ tag_0 (length before) l in (w.number ∙ n, bytes 0 n);
      length_23 = λ g l. let n = past_key (length key) (length before) g ∙ tag_23 (length before) l in (w.number ∙ n, bytes 23 n);
      refused = λ b.
          let one = key_1 (length key) b in
          let n = bad_key (length key) (length before) (λ q. omega (arith, one, q)) ∙ one in
          (w.number ∙ n, bytes 1 n);
    }
  where
    bytes : (n : ℕ) → write_number (length key) (length before) ≡ n → after ≡ unless_refused n (tag_under (schedule_of key) run) before
    bytes n e = w.bytes ∙ ap (λ (k : ℕ). unless_refused k (tag_under (schedule_of key) run) before) e

-- a tag that stands beside no refusal is the run's
made : (cases : List Case) (s : Schedule) (run : List ℕ) (r : Result (List ℕ) Refusal) → Tags cases s run r → number_in r ≡ 0
    → (first_of cases ≡ 0) × (tag_in r ≡ tag_under s run)
made cases s run r t e =
    let z : first_of cases ≡ 0 = sym t.number ∙ e in
    (z, t.tag ∙ ap (λ (k : ℕ). unless_refused k (tag_under s run) zero_block) z)

pub made_verifies : MadeVerifies
made_verifies =
    record {
      written = λ key run before r after w e.
          let n = length key in
          let z : write_number n (length before) ≡ 0 = sym w.number ∙ e in
          let good : first_of (key_cases n) ≡ 0 = (first_none (key_cases n) _ (key_positive n) z).0 in
          tag_cases_lem (key_cases n) (key_positive n) (schedule_of key) run after good
          (w.bytes ∙ ap (λ (k : ℕ). unless_refused k (tag_under (schedule_of key) run) before) z);
      by_key = λ key run r t e.
          let m = made (key_cases (length key)) (schedule_of key) run r t e in
          tag_cases_lem (key_cases (length key)) (key_positive (length key)) (schedule_of key) run (tag_in r) m.0 m.1;
      by_schedule = λ s run r t e.
          let m = made (rounds_cases s.rounds) s run r t e in
          tag_cases_lem (rounds_cases s.rounds) (rounds_positive s.rounds) s run (tag_in r) m.0 m.1;
    }
