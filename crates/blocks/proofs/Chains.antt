-- Laws of a chain over the blocks of a run, over any function of a block: its length, a turn of the loop that makes it, that it reads the
-- blocks that it takes in and no others, and, where the function is one-to-one on blocks, that one block changed is seen at its end.
-- Assumes nothing.
use mathlib.Core.Path.{◌≡◌, refl, sym, ap, ap₂, ◌∙◌, subst}
use mathlib.Core.List.{List}
use mathlib.Core.Logic.{⊎_elim}
use Prim.Native.Nat.{ℕ, zero, suc, ◌+◌, ◌-◌, ◌*◌, ◌/◌, ◌%◌, ◌≤◌, ◌<◌}
use native.Mathlib.Nat.{eq-or-lt_of_le}
use native.Mathlib.Omega.{arith}
use lib.ListN.{length, take, drop, length-drop}
use lib.Seq.{length-take-le}
use Rattle.octets.proofs.Parts.{part_front}
use Rattle.blocks.specs.Xor.{xor_block}
use Rattle.blocks.specs.Blocks.{block_of, block_at}
use Rattle.blocks.specs.Chains.{chained}
use Rattle.blocks.proofs.Blocks.{block_whole, length_block_at, drop_same}
use Rattle.blocks.proofs.XorBlock.{length_xor, xor_cancel_left, xor_cancel_right}

module _ (f : List ℕ → List ℕ) (start : List ℕ) where
  pub length_chain : ((b : List ℕ) → length b ≡ 16 → length (f b) ≡ 16) → length start ≡ 16 → (k : ℕ) (xs : List ℕ)
      → length (chained f start k xs) ≡ 16
  unfolding chained
  length_chain keeps h zero xs = h
  length_chain keeps h (suc k) xs = keeps _ (length_xor (chained f start k xs) _ ∙ length_chain keeps h k xs)

  -- a turn at byte `at` of a run of whole blocks: the part there is loaded and added, and the sum put through f
  pub chain_turn : (xs x b y : List ℕ) (at : ℕ) → at % 16 ≡ 0 → at + 16 ≤ length xs → x ≡ chained f start (at / 16) xs
      → b ≡ block_of (take (at + 16 - at) (drop at xs)) → y ≡ f (xor_block x b) → y ≡ chained f start ((at + 16) / 16) xs
  unfolding chained
  chain_turn xs x b y at aligned room ex eb ey =
      let size : at + 16 - at ≡ 16 = omega arith in
      let place : at ≡ 16 * (at / 16) = omega arith in
      let next : suc (at / 16) ≡ (at + 16) / 16 = omega arith in
      let left : 16 ≤ length (drop at xs) = simp length-drop (omega arith) in
      let here : b ≡ block_at (at / 16) xs =
      eb
      ∙ ap (λ (n : ℕ). block_of (take n (drop at xs))) size
      ∙ block_whole (take 16 (drop at xs)) (length-take-le 16 (drop at xs) left)
      ∙ ap (λ (n : ℕ). take 16 (drop n xs)) place
      in
      ey ∙ ap₂ (λ (u v : List ℕ). f (xor_block u v)) ex here ∙ ap (λ (n : ℕ). chained f start n xs) next

  -- a chain over the first k blocks does not read past them
  pub chain_front : (k n : ℕ) (xs : List ℕ) → 16 * k ≤ n → chained f start k (take n xs) ≡ chained f start k xs
  unfolding chained
  chain_front zero n xs h = refl
  chain_front (suc k) n xs h =
      ap₂ (λ (u v : List ℕ). f (xor_block u v)) (chain_front k n xs (omega arith)) (part_front xs (16 * k) 16 n (omega arith))

  -- chains over runs that begin with the same n bytes are the same as far as these reach
  pub chain_same : (k n : ℕ) (xs ys : List ℕ) → 16 * k ≤ n → take n xs ≡ take n ys → chained f start k xs ≡ chained f start k ys
  chain_same k n xs ys h e = sym (chain_front k n xs h) ∙ ap (chained f start k) e ∙ chain_front k n ys h

-- ---- over a function that is one-to-one on blocks

module _ (f : List ℕ → List ℕ) (one : (a b : List ℕ) → length a ≡ 16 → length b ≡ 16 → f a ≡ f b → a ≡ b) where
  sums_same : (x y b c : List ℕ) → length x ≡ 16 → length y ≡ 16 → f (xor_block x b) ≡ f (xor_block y c) → xor_block x b ≡ xor_block y c
  sums_same x y b c lx ly e = one _ _ (length_xor x b ∙ lx) (length_xor y c ∙ ly) e

  -- where a step with the same block ends in the same value, it began with the same value
  pub step_values : (x y b c : List ℕ) → length x ≡ 16 → length y ≡ 16 → b ≡ c → f (xor_block x b) ≡ f (xor_block y c) → x ≡ y
  step_values x y b c lx ly eb e = xor_cancel_right x y c (ap (xor_block x) (sym eb) ∙ sums_same x y b c lx ly e)

  -- and where it began with the same value, it was with the same block
  pub step_blocks : (x y b c : List ℕ) → length x ≡ 16 → length y ≡ 16 → length b ≡ 16 → length c ≡ 16 → x ≡ y
      → f (xor_block x b) ≡ f (xor_block y c) → b ≡ c
  step_blocks x y b c lx ly lb lc ex e =
      xor_cancel_left y b c (ly ∙ sym lb) (ly ∙ sym lc) (ap (λ (l : List ℕ). xor_block l b) (sym ex) ∙ sums_same x y b c lx ly e)

  module _ (keeps : (b : List ℕ) → length b ≡ 16 → length (f b) ≡ 16) (start : List ℕ) (size : length start ≡ 16) where
    -- of two runs that are the same outside block k, chains past it end in the same value only where block k is the same
    pub chain_block : (k j : ℕ) (xs ys : List ℕ) → k < j → 16 * j ≤ length xs → 16 * j ≤ length ys → take (16 * k) xs ≡ take (16 * k) ys
        → drop (16 * suc k) xs ≡ drop (16 * suc k) ys → chained f start j xs ≡ chained f start j ys → block_at k xs ≡ block_at k ys
    unfolding chained
    chain_block k zero xs ys l hx hy before behind e = absurd (omega arith)
    chain_block k (suc j) xs ys l hx hy before behind e =
        let lx = length_chain f start keeps size j xs in
        let ly = length_chain f start keeps size j ys in
        let here : k ≡ j → block_at k xs ≡ block_at k ys =
        λ q.
        let same : chained f start j xs ≡ chained f start j ys = chain_same f start j (16 * k) xs ys (omega arith) before in
        let at : block_at j xs ≡ block_at j ys =
        step_blocks (chained f start j xs) (chained f start j ys) (block_at j xs) (block_at j ys) lx ly (length_block_at j xs hx)
        (length_block_at j ys hy) same e
        in
        subst (λ (i : ℕ). block_at i xs ≡ block_at i ys) (sym q) at
        in
        let later : k < j → block_at k xs ≡ block_at k ys =
        λ p.
        let at : block_at j xs ≡ block_at j ys = ap (take 16) (drop_same xs ys (16 * suc k) (16 * j) (omega arith) behind) in
        let same : chained f start j xs ≡ chained f start j ys =
        step_values (chained f start j xs) (chained f start j ys) (block_at j xs) (block_at j ys) lx ly at e
        in
        chain_block k j xs ys p (omega arith) (omega arith) before behind same
        in
        let upto : k ≤ j = omega arith in
        ⊎_elim here later (eq-or-lt_of_le upto)
