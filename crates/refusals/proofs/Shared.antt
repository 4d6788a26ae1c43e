-- The shared cases at each outcome of their tests, and what a good round count is good for.
-- Assumes nothing.
use mathlib.Core.Path.{◌≡◌, refl, sym, ap}
use mathlib.Core.Bool.{Bool, true, false, not, ◌&&◌, ◌||◌}
use mathlib.Core.List.{[], ◌∷◌}
use Prim.Native.Nat.{ℕ, ◌%◌, ◌≤◌, ◌<◌}
use native.Mathlib.Omega.{arith}
use borrow.Author.Tests.{eqb-true, eq-eqb, ne_eqb, lt-ltb, le-ltb}
use lib.Dec.{eqb}
use Rattle.refusals.specs.Cases.{when, first_of, positive, lacks}
use Rattle.refusals.specs.Shared.{good_key, key_cases, tag_key_cases, direction_cases, good_rounds, rounds_cases, whole_cases}
use Rattle.refusals.proofs.Booleans.{true_false}
use Rattle.refusals.proofs.Cases.{one_applies, one_passes}

-- ---- 1

pub key_positive : (n : ℕ) → positive (key_cases n) ≡ true
unfolding key_cases positive
key_positive n = refl

pub key_lacks : (m n : ℕ) → (not (eqb 1 m) && true) ≡ true → lacks m (key_cases n) ≡ true
unfolding key_cases lacks
key_lacks m n e = e

pub key_1 : (n : ℕ) → good_key n ≡ false → first_of (key_cases n) ≡ 1
unfolding key_cases
key_1 n e = one_applies (not (good_key n)) 1 (ap not e)

pub key_0 : (n : ℕ) → good_key n ≡ true → first_of (key_cases n) ≡ 0
unfolding key_cases
key_0 n e = one_passes (not (good_key n)) 1 (ap not e)

-- the number tells the case
pub key_good : (n : ℕ) → first_of (key_cases n) ≡ 0 → good_key n ≡ true
key_good n e = by_case (good_key n) refl
  where
    by_case : (a : Bool) → good_key n ≡ a → good_key n ≡ true
    by_case true p = p
    by_case false p = absurd (omega (arith, key_1 n p, e))

pub key_bad : (n : ℕ) → (first_of (key_cases n) ≡ 0 → ⊥) → good_key n ≡ false
key_bad n h = by_case (good_key n) refl
  where
    by_case : (a : Bool) → good_key n ≡ a → good_key n ≡ false
    by_case true p = absurd (h (key_0 n p))
    by_case false p = p

-- a good key has at most 32 bytes
pub key_most : (n : ℕ) → good_key n ≡ true → n ≤ 32
unfolding good_key
key_most n e = by_case (eqb n 16) refl (eqb n 24) refl (eqb n 32) refl
  where
    by_case : (a : Bool) → eqb n 16 ≡ a → (b : Bool) → eqb n 24 ≡ b → (c : Bool) → eqb n 32 ≡ c → n ≤ 32
    by_case true p b q c r = omega (arith, eqb-true n 16 p)
    by_case false p true q c r = omega (arith, eqb-true n 24 q)
    by_case false p false q true r = omega (arith, eqb-true n 32 r)
    by_case false p false q false r = absurd (true_false (sym (rw (p, q, r) at e)))

-- ---- 1 of a tag key

pub tag_key_positive : (n : ℕ) → positive (tag_key_cases n) ≡ true
unfolding tag_key_cases positive
tag_key_positive n = refl

pub tag_key_lacks : (m n : ℕ) → (not (eqb 1 m) && true) ≡ true → lacks m (tag_key_cases n) ≡ true
unfolding tag_key_cases lacks
tag_key_lacks m n e = e

-- none is good
pub tag_key_none : (n : ℕ) → n ≡ 0 → first_of (tag_key_cases n) ≡ 0
unfolding tag_key_cases first_of
tag_key_none n e = rw e

-- one that is there is judged as a key is
pub tag_key_some : (n : ℕ) → (n ≡ 0 → ⊥) → first_of (tag_key_cases n) ≡ first_of (key_cases n)
unfolding tag_key_cases key_cases
tag_key_some n h = ap (λ t. first_of (when (not (t || good_key n)) 1 ∷ [])) (ne_eqb n 0 h)

-- ---- 2

pub direction_positive : (d : ℕ) → positive (direction_cases d) ≡ true
unfolding direction_cases positive
direction_positive d = refl

pub direction_2 : (d : ℕ) → 1 < d → first_of (direction_cases d) ≡ 2
unfolding direction_cases
direction_2 d h = one_applies _ 2 (lt-ltb 1 d h)

pub direction_0 : (d : ℕ) → d ≤ 1 → first_of (direction_cases d) ≡ 0
unfolding direction_cases
direction_0 d h = one_passes _ 2 (le-ltb 1 d h)

-- ---- 3

pub rounds_positive : (n : ℕ) → positive (rounds_cases n) ≡ true
unfolding rounds_cases positive
rounds_positive n = refl

pub rounds_3 : (n : ℕ) → good_rounds n ≡ false → first_of (rounds_cases n) ≡ 3
unfolding rounds_cases
rounds_3 n e = one_applies (not (good_rounds n)) 3 (ap not e)

pub rounds_0 : (n : ℕ) → good_rounds n ≡ true → first_of (rounds_cases n) ≡ 0
unfolding rounds_cases
rounds_0 n e = one_passes (not (good_rounds n)) 3 (ap not e)

-- the number tells the case
pub rounds_good : (n : ℕ) → first_of (rounds_cases n) ≡ 0 → good_rounds n ≡ true
rounds_good n e = by_case (good_rounds n) refl
  where
    by_case : (a : Bool) → good_rounds n ≡ a → good_rounds n ≡ true
    by_case true p = p
    by_case false p = absurd (omega (arith, rounds_3 n p, e))

pub rounds_bad : (n : ℕ) → (first_of (rounds_cases n) ≡ 0 → ⊥) → good_rounds n ≡ false
rounds_bad n h = by_case (good_rounds n) refl
  where
    by_case : (a : Bool) → good_rounds n ≡ a → good_rounds n ≡ false
    by_case true p = absurd (h (rounds_0 n p))
    by_case false p = p

-- what the rounds need of a good round count: it is even, and 2 to 16
pub record Counted (n : ℕ) : Type 0 where
  pub some : 2 ≤ n
  pub most : n ≤ 16
  pub even : n % 2 ≡ 0

pub counted : (n : ℕ) → good_rounds n ≡ true → Counted n
unfolding good_rounds
counted n e = by_tests (eqb n 12) refl (eqb n 14) refl e
  where
    by_tests : (a : Bool) → eqb n 12 ≡ a → (b : Bool) → eqb n 14 ≡ b → (a || (b || eqb n 16)) ≡ true → Counted n
    by_tests true p b q e = let h = eqb-true n 12 p in record { some = omega arith; most = omega arith; even = omega arith }
    by_tests false p true q e = let h = eqb-true n 14 q in record { some = omega arith; most = omega arith; even = omega arith }
    by_tests false p false q e = let h = eqb-true n 16 e in record { some = omega arith; most = omega arith; even = omega arith }

-- ---- 4

pub whole_4 : (len : ℕ) → (len % 16 ≡ 0 → ⊥) → first_of (whole_cases len) ≡ 4
unfolding whole_cases
whole_4 len h = one_applies (not (eqb (len % 16) 0)) 4 (ap not (ne_eqb (len % 16) 0 h))

pub whole_0 : (len : ℕ) → len % 16 ≡ 0 → first_of (whole_cases len) ≡ 0
unfolding whole_cases
whole_0 len e = one_passes (not (eqb (len % 16) 0)) 4 (ap not (eq-eqb (len % 16) 0 e))
