-- The walk of an engine over the rounds of a block, two at a time, over any box family and any form of the block in between: how it
-- starts, a turn, and its end. An engine says in its calls' contracts what an odd, an even and the last round make of the block that its
-- state is.
-- Assumes nothing.
use mathlib.Core.Path.{◌≡◌, refl, sym, ap, ap₂, ◌∙◌}
use mathlib.Core.Bool.{true}
use mathlib.Core.List.{List}
use Prim.Native.Nat.{ℕ, suc, ◌+◌, ◌-◌, ◌%◌, ◌≤◌, ◌<◌}
use native.Mathlib.Omega.{arith}
use Rattle.refusals.specs.Shared.{good_rounds}
use Rattle.refusals.proofs.Shared.{counted}
use Rattle.circuit.specs.Circuit.{key_at, odd_round, even_round, last_round, round_after, rounds, circuit}

module _ (f : ℕ → ℕ → ℕ) where
  module _ (ks b : List ℕ) (i : ℕ) (even : i % 2 ≡ 0) where
    round_odd : odd_round f (key_at ks i) (rounds f ks i b) ≡ rounds f ks (suc i) b
    unfolding rounds
    round_odd = ap (λ (p : ℕ). round_after f p (key_at ks i) (rounds f ks i b)) (sym even)

    round_even : even_round f (key_at ks (i + 1)) (rounds f ks (suc i) b) ≡ rounds f ks (i + 2) b
    unfolding rounds
    round_even =
        let odd : 1 ≡ suc i % 2 = omega arith in
        let next : i + 1 ≡ suc i = omega arith in
        let two : suc (suc i) ≡ i + 2 = omega arith in
        ap₂ (λ (p j : ℕ). round_after f p (key_at ks j) (rounds f ks (suc i) b)) odd next ∙ ap (λ (j : ℕ). rounds f ks j b) two

    rounds_two : even_round f (key_at ks (i + 1)) (odd_round f (key_at ks i) (rounds f ks i b)) ≡ rounds f ks (i + 2) b
    rounds_two = ap (even_round f (key_at ks (i + 1))) round_odd ∙ round_even

    circuit_two : (n : ℕ) → i + 2 ≡ n
        → last_round f (key_at ks (i + 1)) (key_at ks (i + 2)) (odd_round f (key_at ks i) (rounds f ks i b)) ≡ circuit f n ks b
    unfolding circuit
    circuit_two n e =
        let last : i + 1 ≡ n - 1 = omega arith in
        let before : suc i ≡ n - 1 = omega arith in
        ap (last_round f (key_at ks (i + 1)) (key_at ks (i + 2))) (round_odd ∙ ap (λ (j : ℕ). rounds f ks j b) before)
        ∙ ap₂ (λ (j k : ℕ). last_round f (key_at ks j) (key_at ks k) (rounds f ks (n - 1) b)) last e

-- the block b is in the midst of n rounds under the keys ks: i of them are done, an even number, and x is what it has become
pub record Walking (f : ℕ → ℕ → ℕ) (n : ℕ) (ks b : List ℕ) (i : ℕ) (x : List ℕ) : Type 0 where
  pub left : i + 2 ≤ n
  pub most : n ≤ 16
  pub whole : n % 2 ≡ 0
  pub even : i % 2 ≡ 0
  pub reached : x ≡ rounds f ks i b

module _ (f : ℕ → ℕ → ℕ) (n : ℕ) (ks b : List ℕ) where
  pub walking_start : (x : List ℕ) → good_rounds n ≡ true → x ≡ b → Walking f n ks b 0 x
  unfolding rounds
  walking_start x good e =
      let k = counted n good in
      record { left = k.some; most = k.most; whole = k.even; even = refl; reached = e }

  module _ (i : ℕ) (x y k l : List ℕ) (w : Walking f n ks b i x) (ek : k ≡ key_at ks i) (el : l ≡ key_at ks (i + 1))
      (ey : y ≡ odd_round f k x) where
    odd_done : y ≡ odd_round f (key_at ks i) (rounds f ks i b)
    odd_done = ey ∙ ap₂ (odd_round f) ek w.reached

    -- two rounds, of which y is in the middle
    pub walking_turn : (z : List ℕ) → i + 2 < n → z ≡ even_round f l y → Walking f n ks b (i + 2) z
    walking_turn z h ez =
        let whole = w.whole in
        let even = w.even in
        record {
          left = omega arith;
          most = w.most;
          whole = whole;
          even = omega arith;
          reached = ez ∙ ap₂ (even_round f) el odd_done ∙ rounds_two f ks b i even;
        }

    -- the last two
    pub walking_done : (m z : List ℕ) → n ≤ i + 2 → m ≡ key_at ks (i + 2) → z ≡ last_round f l m y → z ≡ circuit f n ks b
    walking_done m z h em ez =
        let left = w.left in
        let end : i + 2 ≡ n = omega arith in
        ez
        ∙ ap₂ (λ (u v : List ℕ). last_round f u v y) el em
        ∙ ap (last_round f (key_at ks (i + 1)) (key_at ks (i + 2))) odd_done
        ∙ circuit_two f ks b i w.even n end
