-- What a key's length says of its schedule: the case of a good key and of another.
-- Assumes nothing.
use mathlib.Core.Path.{◌≡◌, refl, sym, ap, ap₂, subst, ◌∙◌}
use Rattle.std.specs.Prelude.{Err}
use Rattle.refusals.specs.declared.Refusal.{Refusal}
use Rattle.refusals.specs.Numbers.{number}
use Rattle.refusals.proofs.Numbers.{number_some}
use mathlib.Core.Bool.{Bool, true, false, not, cond, ◌||◌}
use mathlib.Core.List.{List, []}
use Prim.Native.Nat.{ℕ, ◌+◌, ◌≤◌, ◌<◌}
use native.Mathlib.Omega.{arith}
use lib.Dec.{eqb}
use lib.ListN.{length, get_or}
use borrow.Author.Tests.{eqb-true, ne_eqb}
use Rattle.refusals.specs.Cases.{first_of}
use Rattle.refusals.specs.Shared.{good_key, key_cases, good_rounds}
use Rattle.refusals.proofs.Shared.{key_0, key_1, key_good, key_bad}
use Rattle.blocks.specs.Blocks.{row}
use Rattle.circuit.specs.declared.Schedule.{Schedule}
use Rattle.circuit.specs.Good.{no_schedule}
use Rattle.expansion.specs.KeySchedule.{rounds_for, keys_for, encryption_keys, key_bytes, schedule_for, schedule_of, Expands}

-- what holds of the length of a good key, and of another
pub record GoodKey (n : ℕ) : Type 0 where
  pub number : first_of (key_cases n) ≡ 0
  pub some : 0 < rounds_for n
  pub most : rounds_for n ≤ 16
  pub rounds : good_rounds (rounds_for n) ≡ true
  pub keys : keys_for n ≡ rounds_for n + 1

pub record BadKey (n : ℕ) : Type 0 where
  pub number : first_of (key_cases n) ≡ 1
  pub rounds : rounds_for n ≡ 0
  pub keys : keys_for n ≡ 0

-- by computation at each length
good_at : (n : ℕ) → good_key n ≡ true → 0 < rounds_for n → rounds_for n ≤ 16 → good_rounds (rounds_for n) ≡ true → GoodKey n
unfolding keys_for
good_at n e some most rounds = record { number = key_0 n e; some = some; most = most; rounds = rounds; keys = rw e }

good_16 : GoodKey 16
unfolding good_key good_rounds rounds_for
good_16 = good_at 16 refl (omega arith) (omega arith) refl

good_24 : GoodKey 24
unfolding good_key good_rounds rounds_for
good_24 = good_at 24 refl (omega arith) (omega arith) refl

good_32 : GoodKey 32
unfolding good_key good_rounds rounds_for
good_32 = good_at 32 refl (omega arith) (omega arith) refl

pub length_good : (n : ℕ) → good_key n ≡ true → GoodKey n
unfolding good_key
length_good n e = by_tests (eqb n 16) refl (eqb n 24) refl e
  where
    by_tests : (a : Bool) → eqb n 16 ≡ a → (b : Bool) → eqb n 24 ≡ b → (a || (b || eqb n 32)) ≡ true → GoodKey n
    by_tests true p b q e = subst (λ (m : ℕ). GoodKey m) (sym (eqb-true n 16 p)) good_16
    by_tests false p true q e = subst (λ (m : ℕ). GoodKey m) (sym (eqb-true n 24 q)) good_24
    by_tests false p false q e = subst (λ (m : ℕ). GoodKey m) (sym (eqb-true n 32 e)) good_32

pub length_bad : (n : ℕ) → good_key n ≡ false → BadKey n
unfolding good_key rounds_for keys_for
length_bad n e = by_tests (eqb n 16) refl (eqb n 24) refl (eqb n 32) refl e
  where
    by_tests : (a : Bool) → eqb n 16 ≡ a → (b : Bool) → eqb n 24 ≡ b → (c : Bool) → eqb n 32 ≡ c → (a || (b || c)) ≡ false → BadKey n
    by_tests true p b q c r h = let z : ◌≡◌ {A = ℕ} 0 1 = cc in absurd (omega arith)
    by_tests false p true q c r h = let z : ◌≡◌ {A = ℕ} 0 1 = cc in absurd (omega arith)
    by_tests false p false q true r h = let z : ◌≡◌ {A = ℕ} 0 1 = cc in absurd (omega arith)
    by_tests false p false q false r h = record { number = key_1 n e; rounds = rw (p, q, r); keys = rw (p, q, r) }

-- the number tells the case
pub number_good : (n : ℕ) → first_of (key_cases n) ≡ 0 → GoodKey n
number_good n e = length_good n (key_good n e)

pub number_bad : (n : ℕ) → (first_of (key_cases n) ≡ 0 → ⊥) → BadKey n
number_bad n h = length_bad n (key_bad n h)

-- the number, as the tests of the code find it
pub number_told : (n : ℕ) → first_of (key_cases n) ≡ cond (eqb n 16 || (eqb n 24 || eqb n 32)) 0 1
unfolding key_cases good_key first_of
number_told n = by_case (eqb n 16 || (eqb n 24 || eqb n 32))
  where
    by_case : (a : Bool) → ◌≡◌ {A = ℕ} (cond (not a) 1 0) (cond a 0 1)
    by_case true = refl
    by_case false = refl

-- the rounds tell the case
pub rounds_some : (n : ℕ) → (rounds_for n ≡ 0 → ⊥) → GoodKey n
rounds_some n h = by_case (good_key n) refl
  where
    by_case : (a : Bool) → good_key n ≡ a → GoodKey n
    by_case true p = length_good n p
    by_case false p = absurd (h (length_bad n p).rounds)

pub rounds_none : (n : ℕ) → rounds_for n ≡ 0 → BadKey n
rounds_none n e = by_case (good_key n) refl
  where
    by_case : (a : Bool) → good_key n ≡ a → BadKey n
    by_case true p = absurd (omega (arith, (length_good n p).some, e))
    by_case false p = length_bad n p

-- the rounds, as the tests of the code find them
pub rounds_at : (m n : ℕ) → n ≡ m → rounds_for m ≡ rounds_for n
rounds_at m n e = ap rounds_for (sym e)

pub rounds_other : (n : ℕ) → (n ≡ 16 → ⊥) → (n ≡ 24 → ⊥) → (n ≡ 32 → ⊥) → 0 ≡ rounds_for n
unfolding rounds_for
rounds_other n p q r = rw (ne_eqb n 16 p, ne_eqb n 24 q, ne_eqb n 32 r)

-- ---- the schedule

-- the round count of a good key is good
pub good_rounds_lem : (key : List ℕ) → good_key (length key) ≡ true → good_rounds (schedule_of key).rounds ≡ true
unfolding schedule_of schedule_for
good_rounds_lem key e = (length_good (length key) e).rounds

-- two schedules are equal where their round counts and their key bytes are
pub same_schedule : (s t : Schedule) → s.rounds ≡ t.rounds → s.keys ≡ t.keys → s ≡ t
same_schedule s t p q = ap₂ (λ (n : ℕ) (ks : List ℕ). record { rounds = n; keys = ks }) p q

-- the schedule for the words of a good key, and of another
pub schedule_good : (n : ℕ) (w : List (List ℕ)) → GoodKey n
    → schedule_for n w ≡ record { rounds = rounds_for n; keys = key_bytes (λ (i : ℕ). get_or (encryption_keys w) i []) (rounds_for n + 1) }
unfolding schedule_for
schedule_good n w g = ap (λ (k : ℕ). record { rounds = rounds_for n; keys = key_bytes (λ (i : ℕ). get_or (encryption_keys w) i []) k })
    g.keys

pub schedule_bad : (n : ℕ) (w : List (List ℕ)) → BadKey n → schedule_for n w ≡ no_schedule
unfolding schedule_for key_bytes row
schedule_bad n w g =
    ap₂ (λ (r k : ℕ). record { rounds = r; keys = key_bytes (λ (i : ℕ). get_or (encryption_keys w) i []) k }) g.rounds g.keys

-- a refusal for the length expands to it
pub expand_refused : (n : ℕ) (w : List (List ℕ)) (e : Refusal) → number e ≡ first_of (key_cases n) → Expands n w (Err e)
expand_refused n w e told =
    record { number = told; schedule = sym (schedule_bad n w (number_bad n (λ z. number_some e (told ∙ z)))) }
