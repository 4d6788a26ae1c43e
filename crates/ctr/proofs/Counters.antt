-- Counter blocks in a row, each encrypted, are the keystream from the first block's first byte on.
-- Assumes nothing.
use mathlib.Core.Path.{◌≡◌, refl, sym, ap, ap₂, ◌∙◌}
use mathlib.Core.Bool.{true}
use mathlib.Core.List.{List, [], ◌++◌, append-nil}
use Prim.Native.Nat.{ℕ, ◌+◌, ◌*◌, ◌/◌, ◌%◌, ◌≤◌, ◌<◌}
use native.Mathlib.Omega.{arith}
use lib.ListN.{length, get_or, take, drop, length-append, length-take, length-drop, get_or-append}
use lib.Seq.{get_or-take, get_or-drop}
use Rattle.std.specs.Prelude.{Result, Ok, Err}
use Rattle.std.specs.Result.{IsOk}
use Rattle.refusals.specs.Numbers.{number_in}
use Rattle.refusals.specs.Shared.{good_rounds}
use Rattle.refusals.specs.declared.Refusal.{Refusal}
use Rattle.refusals.proofs.Numbers.{number_some}
use Rattle.octets.specs.Numbers.{bytes32}
use Rattle.octets.specs.Parts.{laid}
use Rattle.blocks.specs.Xor.{xor_block}
use Rattle.blocks.specs.Blocks.{block_of, block_at}
use Rattle.blocks.specs.Runs.{each_block}
use Rattle.blocks.proofs.Blocks.{block_whole, block_behind}
use Rattle.blocks.proofs.Rows.{length_row, row_at}
use Rattle.blocks.proofs.Runs.{each_length, block_at_lem}
use Rattle.circuit.specs.Run.{encrypted, run_number, Ran}
use Rattle.circuit.specs.declared.Schedule.{Schedule}
use Rattle.circuit.proofs.Runs.{length_encrypted, number_0, bytes_done}
use Rattle.ctr.specs.Counter.{counter_block, keystream, add_stream}
use Rattle.ctr.specs.Internal.{counter_blocks}
use Rattle.ctr.proofs.Streams.{stream_list}

-- a result without a refusal is a value
none_refused : {A : Type 0} (r : Result A Refusal) → number_in r ≡ 0 → IsOk r
none_refused (Ok x) q = refl
none_refused (Err e) q = absurd (number_some e q)

module _ (prefix : List ℕ) (twelve : length prefix ≡ 12) where
  pub length_counter : (i : ℕ) → length (counter_block prefix i) ≡ 16
  unfolding counter_block
  length_counter i = length-append prefix _ ∙ ap (λ (n : ℕ). n + 4) twelve

  -- the index laid over a block that begins with the prefix
  pub counter_laid : (i : ℕ) → laid (block_of prefix) 12 (bytes32 i) ≡ counter_block prefix i
  unfolding counter_block
  counter_laid i =
      let room : length prefix + length (bytes32 i) ≤ 16 = omega (arith, twelve) in
      ap (λ (n : ℕ). laid (block_of prefix) n (bytes32 i)) (sym twelve)
      ∙ block_behind prefix (bytes32 i) room
      ∙ block_whole (prefix ++ bytes32 i) (length_counter i)

  module _ (s : Schedule) (block : ℕ) where
    -- n counter blocks from `block` on, and each of them encrypted
    abbrev counters : ℕ → List ℕ
    counters n = counter_blocks prefix block n

    abbrev made : ℕ → List ℕ
    made n = each_block (encrypted s) (counters n)

    length_counters : (n : ℕ) → length (counters n) ≡ 16 * n
    length_counters n = length_row (λ (i : ℕ). counter_block prefix (block + i)) n (λ i l. length_counter (block + i))

    keeps : (b : List ℕ) → length b ≡ 16 → length (encrypted s b) ≡ 16
    keeps b h = length_encrypted s b h

    length_made : (n : ℕ) → length (made n) ≡ 16 * n
    length_made n = each_length (encrypted s) keeps (counters n) ∙ length_counters n

    -- counter blocks are whole blocks, so that a run of the cipher under a good schedule is not refused and encrypts each
    module _ (good : good_rounds s.rounds ≡ true) (n : ℕ) (xs : List ℕ) (e : xs ≡ counters n) where
      counters_none : run_number s.rounds (length xs) ≡ 0
      counters_none =
          let size : length xs ≡ 16 * n = ap length e ∙ length_counters n in
          number_0 s.rounds (length xs) good (omega arith)

      pub counters_taken : {A : Type 0} (r : Result A Refusal) (after : List ℕ) → Ran s xs (number_in r) after → IsOk r
      counters_taken r after ran = none_refused r (ran.number ∙ counters_none)

      pub counters_ran : (r : ℕ) (after : List ℕ) → Ran s xs r after → after ≡ made n
      counters_ran r after ran = ran.bytes ∙ bytes_done s xs counters_none ∙ ap (each_block (encrypted s)) e

    made_at : (n j : ℕ) → j < 16 * n → get_or (made n) j 0 ≡ keystream s prefix (16 * block + j)
    unfolding keystream
    made_at n j h =
        let split : 16 * (j / 16) + j % 16 ≡ j = omega arith in
        let index : (16 * block + j) / 16 ≡ block + j / 16 = omega arith in
        let place : (16 * block + j) % 16 ≡ j % 16 = omega arith in
        let size : length (counters n) ≡ 16 * n = length_counters n in
        let counter : block_at (j / 16) (counters n) ≡ counter_block prefix (block + j / 16) =
        ap (block_at (j / 16)) (sym (append-nil (counters n)))
        ∙ row_at (λ (i : ℕ). counter_block prefix (block + i)) n (j / 16) [] (λ i l. length_counter (block + i)) (omega arith)
        in
        let here : block_at (j / 16) (made n) ≡ encrypted s (counter_block prefix (block + j / 16)) =
        block_at_lem (encrypted s) keeps (j / 16) (counters n) (omega arith) ∙ ap (encrypted s) counter
        in
        ap (λ (m : ℕ). get_or (made n) m 0) (sym split)
        ∙ sym (get_or-drop (16 * (j / 16)) (made n) (j % 16) 0)
        ∙ sym (get_or-take 16 (drop (16 * (j / 16)) (made n)) (j % 16) 0 (omega arith))
        ∙ ap (λ (l : List ℕ). get_or l (j % 16) 0) here
        ∙ ap₂ (λ (b p : ℕ). get_or (encrypted s (counter_block prefix b)) p 0) (sym index) (sym place)

    -- the encrypted counter blocks, from byte `offset` on, added to m bytes that end no later than they do
    pub keystream_added : (n offset m : ℕ) (xs ys rest : List ℕ) → ys ≡ made n → m ≡ length xs → offset + length xs ≤ 16 * n
        → xor_block xs (take m (drop offset (ys ++ rest))) ≡ add_stream (keystream s prefix) (16 * block + offset) xs
    keystream_added n offset m xs ys rest e em h =
        let part : List ℕ = take m (drop offset (ys ++ rest)) in
        let size : length ys ≡ 16 * n = ap length e ∙ length_made n in
        let whole : length part ≡ length xs = simp (length-take, length-drop, length-append) (omega arith) in
        let entry : (j : ℕ) → j < length part → get_or part j 0 ≡ keystream s prefix (16 * block + offset + j) =
        λ j l.
        let sum : 16 * block + (offset + j) ≡ 16 * block + offset + j = omega arith in
        get_or-take m (drop offset (ys ++ rest)) j 0 (omega arith)
        ∙ get_or-drop offset (ys ++ rest) j 0
        ∙ get_or-append ys rest 0 (offset + j) (omega arith)
        ∙ ap (λ (l : List ℕ). get_or l (offset + j) 0) e
        ∙ made_at n (offset + j) (omega arith)
        ∙ ap (keystream s prefix) sum
        in
        stream_list (keystream s prefix) (16 * block + offset) xs part (omega arith) entry
