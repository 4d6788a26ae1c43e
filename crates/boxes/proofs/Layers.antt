-- Laws of the substitution layers over any box family, by induction on the block: length, entries, and that each layer undoes the other.
-- Assumes nothing.
use mathlib.Core.Path.{◌≡◌, refl, sym, ap, ap₂, ◌∙◌}
use mathlib.Core.List.{List, [], ◌∷◌}
use Prim.Native.Nat.{ℕ, zero, suc, ◌+◌, ◌%◌, ◌<◌}
use native.Mathlib.Nat.{add-zero, add-suc, suc-add, le_of_suc-le-suc, not-suc-le-zero}
use native.Mathlib.Omega.{arith}
use lib.ListN.{length, get_or}
use Rattle.boxes.specs.Layers.{layer_from, layer_one, layer_two}
use Rattle.boxes.specs.Laws.{Undoing}

module _ (f : ℕ → ℕ → ℕ) where
  pub length_layer : (p : ℕ) (b : List ℕ) → length (layer_from f p b) ≡ length b
  unfolding layer_from
  length_layer p [] = refl
  length_layer p (x ∷ b) = ap suc (length_layer (suc p) b)

  pub layer_at : (p : ℕ) (b : List ℕ) (j : ℕ) → j < length b → get_or (layer_from f p b) j 0 ≡ f ((p + j) % 4) (get_or b j 0)
  unfolding layer_from
  layer_at p [] j h = absurd (not-suc-le-zero h)
  layer_at p (x ∷ b) zero h = ap (λ (n : ℕ). f (n % 4) x) (sym (add-zero p))
  layer_at p (x ∷ b) (suc j) h =
      layer_at (suc p) b j (le_of_suc-le-suc h) ∙ ap (λ (n : ℕ). f (n % 4) (get_or b j 0)) (suc-add p j ∙ sym (add-suc p j))

  -- the boxes repeat every four bytes
  pub layer_round : (p : ℕ) (b : List ℕ) → layer_from f (p + 4) b ≡ layer_from f p b
  unfolding layer_from
  layer_round p [] = refl
  layer_round p (x ∷ b) =
      let e : (p + 4) % 4 ≡ p % 4 = omega arith in
      ap₂ (λ (n : ℕ) (l : List ℕ). f n x ∷ l) e
      (ap (λ (n : ℕ). layer_from f n b) (sym (suc-add p 4)) ∙ layer_round (suc p) b)

  module _ (u : Undoing f) where
    undo_from : (p : ℕ) (b : List ℕ) → layer_from f (p + 2) (layer_from f p b) ≡ b
    unfolding layer_from
    undo_from p [] = refl
    undo_from p (x ∷ b) =
        ap₂ (λ (y : ℕ) (l : List ℕ). y ∷ l) (u.undo p x)
        (ap (λ (n : ℕ). layer_from f n (layer_from f (suc p) b)) (sym (suc-add p 2)) ∙ undo_from (suc p) b)

    -- each layer undoes the other
    pub layer_undo : (b : List ℕ) → layer_two f (layer_one f b) ≡ b
    layer_undo b = undo_from 0 b

    pub layer_undo_two : (b : List ℕ) → layer_one f (layer_two f b) ≡ b
    layer_undo_two b = sym (layer_round 0 (layer_two f b)) ∙ undo_from 2 b
