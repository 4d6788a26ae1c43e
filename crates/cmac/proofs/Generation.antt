-- The code's steps and the definition of CMAC: the last block, complete or filled, and the chain over the blocks before it.
-- Assumes nothing.
use mathlib.Core.Path.{◌≡◌, refl, sym, ap, ap₂, ◌∙◌}
use mathlib.Core.Bool.{Bool, true, false, cond}
use mathlib.Core.List.{List, [], ◌∷◌, ◌++◌, append_assoc}
use Prim.Native.Nat.{ℕ, ◌+◌, ◌*◌, ◌/◌, ◌≤◌, ◌<◌}
use native.Mathlib.Omega.{arith}
use borrow.Author.Tests.{eqb-true}
use lib.Dec.{eqb}
use lib.ListN.{length, take, drop, set, take-append-drop}
use lib.Seq.{length-take-le}
use Rattle.std.proofs.lemmas.List.{take-set, drop-set}
use Rattle.std.specs.Prelude.{Result, Ok, Err}
use Rattle.std.specs.Result.{IsOk}
use Rattle.refusals.specs.Numbers.{number_in}
use Rattle.refusals.specs.Shared.{good_rounds}
use Rattle.refusals.specs.declared.Refusal.{Refusal}
use Rattle.refusals.proofs.Numbers.{number_some}
use Rattle.octets.specs.Parts.{laid}
use Rattle.blocks.specs.Xor.{xor_block}
use Rattle.blocks.specs.Blocks.{block_of}
use Rattle.blocks.specs.Chains.{zero_block, chained}
use Rattle.blocks.proofs.Blocks.{length_block, block_front, block_whole, block_behind}
use Rattle.blocks.proofs.Chains.{chain_front}
use Rattle.circuit.specs.Run.{encrypted, run_number}
use Rattle.circuit.specs.declared.Schedule.{Schedule}
use Rattle.circuit.proofs.Runs.{number_0}
use Rattle.subkeys.specs.Subkeys.{doubled, subkey_for}
use Rattle.tables.specs.Chain.{chain_end, Chains}
use Rattle.tables.proofs.Chains.{chain_end_lem}
use Rattle.cmac.specs.Cmac.{blocks_before, last_part, last_block, mac_of}
use Rattle.cmac.specs.Tag.{tag_under}

-- a byte that is stored is laid over its place
stored : (b : List ℕ) (n v : ℕ) → n < length b → set b n v ≡ laid b n (v ∷ [])
unfolding laid
stored b n v h =
    let mark : List ℕ = v ∷ [] in
    let one : n + 1 ≡ n + length mark = omega arith in
    sym (take-append-drop n (set b n v))
    ∙ ap₂ (λ (x y : List ℕ). x ++ y) (take-set b n v) (drop-set b n v h)
    ∙ ap (λ (m : ℕ). take n b ++ (mark ++ drop m b)) one
    ∙ sym (append_assoc (take n b) mark (drop (n + length mark) b))

-- a byte stored behind a part of less than a block, where zero bytes stand
pub filled_short : (part b : List ℕ) → length part < 16 → b ≡ block_of part → set b (length part) 0x80 ≡ block_of (part ++ 0x80 ∷ [])
filled_short part b h eb =
    let mark : List ℕ = 0x80 ∷ [] in
    let sixteen : length b ≡ 16 = ap length eb ∙ length_block part in
    let behind : length part + length mark ≤ 16 = omega arith in
    stored b (length part) 0x80 (omega arith)
    ∙ ap (λ (l : List ℕ). laid l (length part) mark) eb
    ∙ block_behind part mark behind

-- behind a part of a block or more there is no room
pub filled_full : (part b : List ℕ) → 16 ≤ length part → length part ≤ 16 → b ≡ block_of part → b ≡ block_of (part ++ 0x80 ∷ [])
filled_full part b l h eb =
    let e : length part ≡ 16 = omega arith in
    eb ∙ block_whole part e ∙ sym (block_front part (0x80 ∷ []) e)

-- the last block with its subkey, complete or filled
pub last_law : (l part : List ℕ) (complete : Bool) → complete ≡ eqb (length part) 16
    → xor_block (block_of (part ++ 0x80 ∷ [])) (subkey_for complete l) ≡ last_block l part
unfolding last_block subkey_for
last_law l part complete e =
    ap (λ t. xor_block (block_of (part ++ 0x80 ∷ [])) (subkey_for t l)) e ∙ by_test (eqb (length part) 16) refl
  where
    by_test : (t : Bool) → eqb (length part) 16 ≡ t
        → xor_block (block_of (part ++ 0x80 ∷ [])) (cond t (doubled l) (doubled (doubled l)))
        ≡ cond t (xor_block part (doubled l)) (xor_block (block_of (part ++ 0x80 ∷ [])) (doubled (doubled l)))
    by_test true p = ap (λ (b : List ℕ). xor_block b (doubled l)) (block_front part (0x80 ∷ []) (eqb-true (length part) 16 p))
    by_test false p = refl

-- a result without a refusal is a value
pub none_refused : {A : Type 0} (r : Result A Refusal) → number_in r ≡ 0 → IsOk r
none_refused (Ok x) q = refl
none_refused (Err e) q = absurd (number_some e q)

module _ (run : List ℕ) (s : Schedule) (good : good_rounds s.rounds ≡ true) where
  -- the blocks before the last are whole blocks, so that the chain is not refused
  chain_none : (end : ℕ) (front : List ℕ) → end ≡ 16 * blocks_before run → front ≡ take end run → run_number s.rounds (length front) ≡ 0
  chain_none end front ee ef =
      let size : length front ≡ end = ap length ef ∙ length-take-le end run (omega arith) in
      number_0 s.rounds (length front) good (omega arith)

  pub chain_taken : (end : ℕ) (front last tag : List ℕ) (complete : Bool) (r : Result (List ℕ) Refusal) → end ≡ 16 * blocks_before run
      → front ≡ take end run → Chains s front last complete (number_in r) tag → IsOk r
  chain_taken end front last tag complete r ee ef c = none_refused r (c.number ∙ chain_none end front ee ef)

  -- the chain over the blocks before the last, and the last block, is the tag
  pub mac_law : (end : ℕ) (front part last tag : List ℕ) (complete : Bool) (r : ℕ) → end ≡ 16 * blocks_before run → front ≡ take end run
      → part ≡ drop end run → last ≡ block_of (part ++ 0x80 ∷ []) → complete ≡ eqb (length part) 16 → Chains s front last complete r tag
      → tag ≡ tag_under s run
  unfolding tag_under mac_of chain_end
  mac_law end front part last tag complete r ee ef ep el et c =
      let size : length front ≡ end = ap length ef ∙ length-take-le end run (omega arith) in
      let count : length front / 16 ≡ blocks_before run = omega arith in
      let before : chained (encrypted s) zero_block (length front / 16) front ≡ chained (encrypted s) zero_block (blocks_before run) run =
      ap₂ (λ (n : ℕ) (xs : List ℕ). chained (encrypted s) zero_block n xs) count ef
      ∙ chain_front (encrypted s) zero_block (blocks_before run) end run (omega arith)
      in
      let masked : xor_block last (subkey_for complete (encrypted s zero_block)) ≡ last_block (encrypted s zero_block) (last_part run) =
      ap (λ (b : List ℕ). xor_block b (subkey_for complete (encrypted s zero_block))) el
      ∙ last_law (encrypted s zero_block) part complete et
      ∙ ap (last_block (encrypted s zero_block)) (ep ∙ ap (λ (n : ℕ). drop n run) ee)
      in
      chain_end_lem s front last complete (chain_none end front ee ef) r tag c
      ∙ ap₂ (λ (x y : List ℕ). encrypted s (xor_block x y)) before masked
