-- Messages that differ within one block have different tags: CMAC over any function that is one-to-one on blocks, and then with ARIA.
-- Assumes nothing.
use mathlib.Core.Path.{◌≡◌, refl, sym, ap, ap₂, ◌∙◌}
use mathlib.Core.List.{List, [], ◌∷◌, ◌++◌}
use mathlib.Core.Bool.{Bool, true, false}
use Prim.Native.Nat.{ℕ, suc, ◌+◌, ◌-◌, ◌*◌, ◌/◌, ◌≤◌, ◌<◌}
use native.Mathlib.Omega.{arith}
use borrow.Author.Tests.{ltb-true, ltb-false}
use lib.Dec.{eqb, ltb}
use lib.ListN.{length, take, drop, length-drop, take-append-drop}
use lib.Seq.{take-take}
use Rattle.blocks.specs.Xor.{xor_block}
use Rattle.blocks.specs.Blocks.{block_of, block_at}
use Rattle.blocks.specs.Chains.{zero_block, chained}
use Rattle.blocks.proofs.XorBlock.{length_xor, xor_cancel_right}
use Rattle.blocks.proofs.Blocks.{length_block, block_begins, drop_same, same_around}
use Rattle.blocks.proofs.Chains.{length_chain, chain_same, step_values, step_blocks, chain_block}
use Rattle.circuit.specs.Run.{encrypted}
use Rattle.circuit.proofs.Runs.{length_encrypted}
use Rattle.expansion.proofs.Undo.{encrypted_one}
use Rattle.subkeys.specs.Subkeys.{subkey_for}
use Rattle.cmac.specs.Cmac.{blocks_before, last_block, mac_of}
use Rattle.cmac.specs.Tag.{tag_under}
use Rattle.cmac.specs.Changes.{SameOutside, OneBlock}
use Rattle.cmac.proofs.Generation.{last_law}

-- ---- the last block

length_last : (l part : List ℕ) → length (last_block l part) ≡ 16
length_last l part =
    ap length (sym (last_law l part (eqb (length part) 16) refl))
    ∙ length_xor (block_of (part ++ 0x80 ∷ [])) _
    ∙ length_block (part ++ 0x80 ∷ [])

-- parts of one length, at most a block, have the same last block only where they are the same
last_one : (l p q : List ℕ) → length p ≡ length q → length p ≤ 16 → last_block l p ≡ last_block l q → p ≡ q
last_one l p q size short e =
    let full : Bool = eqb (length p) 16 in
    let more : length q ≤ 16 = omega arith in
    let filled : block_of (p ++ 0x80 ∷ []) ≡ block_of (q ++ 0x80 ∷ []) =
    xor_cancel_right (block_of (p ++ 0x80 ∷ [])) (block_of (q ++ 0x80 ∷ [])) (subkey_for full l)
    (last_law l p full refl ∙ e ∙ sym (last_law l q full (ap (λ (n : ℕ). eqb n 16) size)))
    in
    sym (block_begins p (0x80 ∷ []) short)
    ∙ ap₂ (λ (n : ℕ) (b : List ℕ). take n b) size filled
    ∙ block_begins q (0x80 ∷ []) more

-- ---- over any function that is one-to-one on blocks

module _ (f : List ℕ → List ℕ) (keeps : (b : List ℕ) → length b ≡ 16 → length (f b) ≡ 16)
    (one : (a b : List ℕ) → length a ≡ 16 → length b ≡ 16 → f a ≡ f b → a ≡ b) (k : ℕ) (m n : List ℕ) (o : SameOutside k m n) where
  abbrev l : List ℕ
  l = f zero_block

  -- the tag, where j blocks stand before the last part
  abbrev tag_at : ℕ → List ℕ → List ℕ
  tag_at j x = f (xor_block (chained f zero_block j x) (last_block l (drop (16 * j) x)))

  module _ (j : ℕ) (e : tag_at j m ≡ tag_at j n) where
    length_before : (x : List ℕ) → length (chained f zero_block j x) ≡ 16
    length_before x = length_chain f zero_block keeps refl j x

    -- a block before the last: the last parts are the same
    inner : k < j → 16 * j ≤ length m → m ≡ n
    inner h room =
        let last : last_block l (drop (16 * j) m) ≡ last_block l (drop (16 * j) n) =
        ap (last_block l) (drop_same m n (16 * suc k) (16 * j) (omega arith) o.behind)
        in
        let before : chained f zero_block j m ≡ chained f zero_block j n =
        step_values f one (chained f zero_block j m) (chained f zero_block j n) _ _ (length_before m) (length_before n) last e
        in
        let at : block_at k m ≡ block_at k n =
        chain_block f one keeps zero_block refl k j m n h room (omega (arith, o.size)) o.before o.behind before
        in
        same_around k m n o.before at o.behind

    -- the last part, or past it: the chains before it are the same
    outer : j ≤ k → length m ≤ 16 * j + 16 → m ≡ n
    outer h short =
        let far : 16 * j ≤ 16 * k = omega arith in
        let before : chained f zero_block j m ≡ chained f zero_block j n = chain_same f zero_block j (16 * k) m n far o.before in
        let last : last_block l (drop (16 * j) m) ≡ last_block l (drop (16 * j) n) =
        step_blocks f one (chained f zero_block j m) (chained f zero_block j n) _ _ (length_before m) (length_before n)
        (length_last l (drop (16 * j) m)) (length_last l (drop (16 * j) n)) before e
        in
        let size : length (drop (16 * j) m) ≡ length (drop (16 * j) n) = simp length-drop (ap (λ (i : ℕ). i - 16 * j) o.size) in
        let most : length (drop (16 * j) m) ≤ 16 = simp length-drop (omega arith) in
        let front : take (16 * j) m ≡ take (16 * j) n =
        sym (take-take (16 * j) (16 * k) m far) ∙ ap (take (16 * j)) o.before ∙ take-take (16 * j) (16 * k) n far
        in
        sym (take-append-drop (16 * j) m)
        ∙ ap₂ (λ (u v : List ℕ). u ++ v) front (last_one l (drop (16 * j) m) (drop (16 * j) n) size most last)
        ∙ take-append-drop (16 * j) n

  pub mac_one_block : mac_of f m ≡ mac_of f n → m ≡ n
  unfolding mac_of
  mac_one_block e = by_place (ltb k j) refl
    where
      j : ℕ
      j = blocks_before m

      same : tag_at j m ≡ tag_at j n
      same = e ∙ ap (λ (i : ℕ). tag_at ((i - 1) / 16) n) (sym o.size)

      by_place : (t : Bool) → ltb k j ≡ t → m ≡ n
      by_place true p = inner j same (ltb-true k j p) (omega arith)
      by_place false p = outer j same (ltb-false k j p) (omega arith)

pub one_block_changed : OneBlock
unfolding tag_under
one_block_changed s good k m n o e = mac_one_block (encrypted s) (length_encrypted s) (encrypted_one s good) k m n o e
