-- The same keys and the same boxes give the same circuit, over any box family.
-- Assumes nothing.
use mathlib.Core.Path.{◌≡◌, refl, ap, ap₂, ◌∙◌}
use mathlib.Core.List.{List, [], ◌∷◌}
use Prim.Native.Nat.{ℕ, zero, suc, ◌-◌, ◌%◌, ◌≤◌, ◌<◌}
use native.Mathlib.Nat.{mod-lt, zero-lt-suc}
use native.Mathlib.Omega.{arith}
use Rattle.blocks.specs.Xor.{xor_block}
use Rattle.boxes.specs.Layers.{layer_from}
use Rattle.diffusion.specs.Diffusion.{diffusion}
use Rattle.circuit.specs.Circuit.{key_at, odd_round, even_round, last_round, round_after, rounds, circuit}

module _ (f : ℕ → ℕ → ℕ) where
  -- ---- keys that are not used

  module _ (ks ks' b : List ℕ) where
    rounds_same : (m n : ℕ) → m ≤ n → ((i : ℕ) → i ≤ n → key_at ks i ≡ key_at ks' i) → rounds f ks m b ≡ rounds f ks' m b
    unfolding rounds
    rounds_same zero n h e = refl
    rounds_same (suc m) n h e = ap₂ (λ (k x : List ℕ). round_after f (m % 2) k x) (e m (omega arith)) (rounds_same m n (omega arith) e)

    pub circuit_unused : (n : ℕ) → ((i : ℕ) → i ≤ n → key_at ks i ≡ key_at ks' i) → circuit f n ks b ≡ circuit f n ks' b
    unfolding circuit
    circuit_unused n e =
        ap₂ (λ (k l : List ℕ). last_round f k l (rounds f ks (n - 1) b)) (e (n - 1) (omega arith)) (e n (omega arith))
        ∙ ap (last_round f (key_at ks' (n - 1)) (key_at ks' n)) (rounds_same (n - 1) n (omega arith) e)

  -- ---- the same boxes, the same circuit

  module _ (g : ℕ → ℕ → ℕ) (same : (p x : ℕ) → p < 4 → f p x ≡ g p x) where
    layer_same : (p : ℕ) (b : List ℕ) → layer_from f p b ≡ layer_from g p b
    unfolding layer_from
    layer_same p [] = refl
    layer_same p (x ∷ b) = ap₂ (λ (y : ℕ) (l : List ℕ). y ∷ l) (same (p % 4) x (mod-lt p (zero-lt-suc 3))) (layer_same (suc p) b)

    round_same : (p : ℕ) (k b : List ℕ) → round_after f p k b ≡ round_after g p k b
    unfolding odd_round even_round
    round_same zero k b = ap diffusion (layer_same 0 (xor_block b k))
    round_same (suc p) k b = ap diffusion (layer_same 2 (xor_block b k))

    rounds_boxes : (ks : List ℕ) (m : ℕ) (b : List ℕ) → rounds f ks m b ≡ rounds g ks m b
    unfolding rounds
    rounds_boxes ks zero b = refl
    rounds_boxes ks (suc m) b =
        ap (round_after f (m % 2) (key_at ks m)) (rounds_boxes ks m b) ∙ round_same (m % 2) (key_at ks m) (rounds g ks m b)

    pub circuit_boxes : (n : ℕ) (ks b : List ℕ) → circuit f n ks b ≡ circuit g n ks b
    unfolding circuit last_round
    circuit_boxes n ks b =
        ap (last_round f (key_at ks (n - 1)) (key_at ks n)) (rounds_boxes ks (n - 1) b)
        ∙ ap (λ (l : List ℕ). xor_block l (key_at ks n)) (layer_same 2 (xor_block (rounds g ks (n - 1) b) (key_at ks (n - 1))))
