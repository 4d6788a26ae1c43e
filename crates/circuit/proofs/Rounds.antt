-- Lengths of the rounds and of the circuit, over any box family.
-- Assumes nothing.
use mathlib.Core.Path.{◌≡◌, refl, ap, ◌∙◌}
use mathlib.Core.List.{List}
use Prim.Native.Nat.{ℕ, zero, suc, ◌-◌, ◌%◌}
use lib.ListN.{length}
use Rattle.blocks.specs.Xor.{xor_block}
use Rattle.blocks.proofs.XorBlock.{length_xor}
use Rattle.boxes.specs.Layers.{layer_one, layer_two}
use Rattle.boxes.proofs.Layers.{length_layer}
use Rattle.diffusion.specs.Diffusion.{diffusion}
use Rattle.diffusion.proofs.Table.{length_diffusion}
use Rattle.circuit.specs.Circuit.{key_at, odd_round, even_round, last_round, round_after, rounds, circuit}

module _ (f : ℕ → ℕ → ℕ) where
  -- the layer of the round after an even or an odd number of rounds
  unfoldable pub layer_after : ℕ → List ℕ → List ℕ
  layer_after zero b = layer_one f b
  layer_after (suc p) b = layer_two f b

  pub round_after_lem : (p : ℕ) (k b : List ℕ) → round_after f p k b ≡ diffusion (layer_after p (xor_block b k))
  unfolding layer_after odd_round even_round
  round_after_lem zero k b = refl
  round_after_lem (suc p) k b = refl

  pub length_rounds : (ks : List ℕ) (i : ℕ) (b : List ℕ) → length b ≡ 16 → length (rounds f ks i b) ≡ 16
  unfolding rounds
  length_rounds ks zero b h = h
  length_rounds ks (suc i) b h = ap length (round_after_lem (i % 2) (key_at ks i) (rounds f ks i b)) ∙ length_diffusion _

  pub length_circuit : (n : ℕ) (ks b : List ℕ) → length b ≡ 16 → length (circuit f n ks b) ≡ 16
  unfolding circuit last_round
  length_circuit n ks b h =
      length_xor (layer_two f (xor_block (rounds f ks (n - 1) b) (key_at ks (n - 1)))) (key_at ks n)
      ∙ length_layer f 2 (xor_block (rounds f ks (n - 1) b) (key_at ks (n - 1)))
      ∙ length_xor (rounds f ks (n - 1) b) (key_at ks (n - 1))
      ∙ length_rounds ks (n - 1) b h
