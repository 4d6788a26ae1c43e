-- The circuit under the decryption keys undoes the circuit, over any box family in which boxes two apart undo each other: from the end of
-- the one and the start of the other, round by round, what enters a layer of the second is what left the matching layer of the first.
-- Assumes nothing.
use mathlib.Core.Path.{◌≡◌, sym, ap, ap₂, ◌∙◌}
use mathlib.Core.List.{List}
use Prim.Native.Nat.{ℕ, zero, suc, ◌+◌, ◌-◌, ◌%◌, ◌≤◌}
use native.Mathlib.Omega.{arith}
use lib.ListN.{length}
use Rattle.blocks.specs.Xor.{xor_block}
use Rattle.blocks.proofs.XorBlock.{length_xor, xor_twice}
use Rattle.boxes.specs.Laws.{Undoing}
use Rattle.boxes.specs.Layers.{layer_two}
use Rattle.boxes.proofs.Layers.{length_layer, layer_undo, layer_undo_two}
use Rattle.diffusion.specs.Diffusion.{diffusion}
use Rattle.diffusion.proofs.Table.{length_diffusion, self_inverse, linear}
use Rattle.circuit.specs.Circuit.{key_at, last_round, rounds, circuit}
use Rattle.circuit.specs.Laws.{ReversedKeys}
use Rattle.circuit.proofs.Keys.{length_key}
use Rattle.circuit.proofs.Rounds.{layer_after, round_after_lem, length_rounds}

module _ (f : ℕ → ℕ → ℕ) where
  module _ (u : Undoing f) where
    layers_undo : (i j : ℕ) → (i + j) % 2 ≡ 1 → (b : List ℕ) → layer_after f (j % 2) (layer_after f (i % 2) b) ≡ b
    unfolding layer_after
    layers_undo i j e b = by_parity (i % 2) (j % 2) (omega arith)
      where
        by_parity : (p q : ℕ) → p + q ≡ 1 → layer_after f q (layer_after f p b) ≡ b
        by_parity zero zero e = absurd (omega arith)
        by_parity zero (suc q) e = layer_undo f u b
        by_parity (suc p) zero e = layer_undo_two f u b
        by_parity (suc p) (suc q) e = absurd (omega arith)

    module _ (n : ℕ) (ks ks' b : List ℕ) (some : 2 ≤ n) (even : n % 2 ≡ 0) (lb : length b ≡ 16) (t : ReversedKeys n ks ks') where
      -- what leaves the layer of round i + 1 of the first circuit
      leaving : ℕ → List ℕ
      leaving i = layer_after f (i % 2) (xor_block (rounds f ks i b) (key_at ks i))

      -- what enters the layer of round j + 1 of the second
      entering : ℕ → List ℕ
      entering j = xor_block (rounds f ks' j (circuit f n ks b)) (key_at ks' j)

      length_after : (p : ℕ) (x : List ℕ) → length (layer_after f p x) ≡ length x
      unfolding layer_after
      length_after zero x = length_layer f 0 x
      length_after (suc p) x = length_layer f 2 x

      length_leaving : (i : ℕ) → length (leaving i) ≡ 16
      unfolding leaving
      length_leaving i = length_after (i % 2) _ ∙ length_xor (rounds f ks i b) (key_at ks i) ∙ length_rounds f ks i b lb

      -- the last layer of an even number of rounds is layer two
      last_layer : (x : List ℕ) → layer_after f ((n - 1) % 2) x ≡ layer_two f x
      unfolding layer_after
      last_layer x = let e : (n - 1) % 2 ≡ 1 = omega arith in ap (λ (p : ℕ). layer_after f p x) e

      circuit_end : circuit f n ks b ≡ xor_block (leaving (n - 1)) (key_at ks n)
      unfolding circuit last_round leaving
      circuit_end = ap (λ (l : List ℕ). xor_block l (key_at ks n)) (sym (last_layer _))

      rounds_next : (j : ℕ) → rounds f ks (suc j) b ≡ diffusion (leaving j)
      unfolding rounds leaving
      rounds_next j = round_after_lem f (j % 2) (key_at ks j) (rounds f ks j b)

      entering_next : (j : ℕ) → entering (suc j) ≡ xor_block (diffusion (layer_after f (j % 2) (entering j))) (key_at ks' (suc j))
      unfolding rounds entering
      entering_next j =
          ap (λ (l : List ℕ). xor_block l (key_at ks' (suc j)))
          (round_after_lem f (j % 2) (key_at ks' j) (rounds f ks' j (circuit f n ks b)))

      entering_first : entering 0 ≡ leaving (n - 1)
      unfolding rounds entering
      entering_first =
          ap₂ (λ (l k : List ℕ). xor_block l k) circuit_end t.first ∙ xor_twice (leaving (n - 1)) (key_at ks n)

      leaving_next : (i : ℕ) → leaving (suc i) ≡ layer_after f (suc i % 2) (xor_block (diffusion (leaving i)) (key_at ks (suc i)))
      unfolding leaving
      leaving_next i = ap (λ (l : List ℕ). layer_after f (suc i % 2) (xor_block l (key_at ks (suc i)))) (rounds_next i)

      second_end : circuit f n ks' (circuit f n ks b) ≡ xor_block (layer_after f ((n - 1) % 2) (entering (n - 1))) (key_at ks' n)
      unfolding circuit last_round entering
      second_end = ap (λ (l : List ℕ). xor_block l (key_at ks' n)) (sym (last_layer _))

      first_undo : layer_after f ((n - 1) % 2) (leaving 0) ≡ xor_block b (key_at ks 0)
      unfolding leaving rounds
      first_undo = layers_undo 0 (n - 1) (omega arith) (xor_block b (key_at ks 0))

      meet : (j i : ℕ) → i + j + 1 ≡ n → entering j ≡ leaving i
      meet zero i e =
          let m : n - 1 ≡ i = omega arith in
          entering_first ∙ ap leaving m
      meet (suc j) i e =
          let k : List ℕ = key_at ks (suc i) in
          let w : List ℕ = leaving i in
          let lk : length k ≡ 16 = length_key ks (suc i) in
          entering_next j
          ∙ ap (λ (l : List ℕ). xor_block (diffusion (layer_after f (j % 2) l)) (key_at ks' (suc j)))
          (meet j (suc i) (omega arith) ∙ leaving_next i)
          ∙ ap (λ (l : List ℕ). xor_block (diffusion l) (key_at ks' (suc j)))
          (layers_undo (suc i) j (omega arith) (xor_block (diffusion w) k))
          ∙ ap₂ (λ (l r : List ℕ). xor_block l r) (linear (diffusion w) k (length_diffusion w ∙ sym lk))
          (t.inner (suc i) (suc j) (omega arith) (omega arith) (omega arith))
          ∙ ap (λ (l : List ℕ). xor_block (xor_block l (diffusion k)) (diffusion k)) (self_inverse w (length_leaving i))
          ∙ xor_twice w (diffusion k)

      pub circuit_undo : circuit f n ks' (circuit f n ks b) ≡ b
      circuit_undo =
          second_end
          ∙ ap₂ (λ (l k : List ℕ). xor_block (layer_after f ((n - 1) % 2) l) k) (meet (n - 1) 0 (omega arith)) t.last
          ∙ ap (λ (l : List ℕ). xor_block l (key_at ks 0)) (first_undo)
          ∙ xor_twice b (key_at ks 0)

-- reversing undoes itself: ks are the decryption keys of ks'
pub reversed_back : (n : ℕ) (ks ks' : List ℕ) → ReversedKeys n ks ks' → ReversedKeys n ks' ks
reversed_back n ks ks' t =
    record {
      first = sym t.last;
      last = sym t.first;
      inner = λ i j e hi hj.
          sym (ap diffusion (t.inner j i (omega arith) hj hi) ∙ self_inverse (key_at ks j) (length_key ks j));
    }
