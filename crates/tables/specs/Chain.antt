-- CMAC's chain under a schedule (SP 800-38B, section 6.2, from step 4 on), over a message that is laid out in blocks: a run of whole
-- blocks, and apart from it the last block, with whether the message filled it. L and the subkey come from the same tables as the chain, so
-- that a call makes these once. The standard's own definition is `mac_of` of crate `cmac`, which lays the message out and proves that it
-- comes to this.
-- Assumes nothing.
use Rattle.std.specs.Prelude.{◌≡◌, Bool, List, ℕ, ◌/◌, length, Result, Ok, Err}
use Rattle.refusals.specs.declared.Refusal.{Refusal}
use Rattle.refusals.specs.Answers.{unless_refused}
use Rattle.blocks.specs.Xor.{xor_block}
use Rattle.blocks.specs.Chains.{zero_block, chained}
use Rattle.circuit.specs.Run.{encrypted, run_number}
use Rattle.circuit.specs.declared.Schedule.{Schedule}
use Rattle.subkeys.specs.Subkeys.{subkey_for}

-- the blocks of the run taken in from the block of zero bytes on, and then the last block with its subkey added; L is the block of zero
-- bytes encrypted
unfoldable pub chain_end : Schedule → List ℕ → List ℕ → Bool → List ℕ
chain_end s run last complete =
    encrypted s
    (xor_block (chained (encrypted s) zero_block (length run / 16) run) (xor_block last (subkey_for complete (encrypted s zero_block))))

-- the contract of a chain under schedule s: r is the number that a run of the same length answers (3, 4 or 0), and `end` what the chain
-- comes to; zero bytes where it is refused
pub record Chains (s : Schedule) (run last : List ℕ) (complete : Bool) (r : ℕ) (end : List ℕ) : Type 0 where
  pub number : r ≡ run_number s.rounds (length run)
  pub block : end ≡ unless_refused (run_number s.rounds (length run)) (chain_end s run last complete) zero_block

-- the block that a result is, zero bytes where it is a refusal
abbrev pub block_in : Result (List ℕ) Refusal → List ℕ
block_in (Ok block) = block
block_in (Err e) = zero_block
