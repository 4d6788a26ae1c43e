-- Counter mode, SP 800-38A section 6.5, with the counter blocks of 01, The dryer archive: "A body is its plain bytes xor the forward
-- sealing of counter blocks: archive number (4 bytes), the eight digits, block index (4 bytes, from 0). The last block uses as many bytes
-- as remain." Here the first twelve bytes of a counter block are any prefix. The keystream is defined byte by byte, at every place, so that
-- a run may begin at any byte of it (02, f: "the keystream step underneath gets a first byte of its own"). Encryption and decryption are
-- the one operation.
-- Assumes nothing.
use Rattle.std.specs.Prelude.{◌≡◌, List, [], ◌∷◌, ◌++◌, ℕ, suc, ◌/◌, ◌%◌, get_or}
use Rattle.refusals.specs.Cases.{first_of}
use Rattle.refusals.specs.Answers.{unless_refused}
use Rattle.refusals.specs.Shared.{rounds_cases}
use Rattle.octets.specs.Numbers.{bytes32}
use Rattle.blocks.specs.Xor.{◌⊕◌}
use Rattle.circuit.specs.Run.{encrypted}
use Rattle.circuit.specs.declared.Schedule.{Schedule}

-- counter block i, counted from 0; of an index of more than four bytes, its remainder modulo 2^32
unfoldable pub counter_block : List ℕ → ℕ → List ℕ
counter_block prefix i = prefix ++ bytes32 i

-- byte j of the keystream: the counter blocks in a row, each encrypted
unfoldable pub keystream : Schedule → List ℕ → ℕ → ℕ
keystream s prefix j = get_or (encrypted s (counter_block prefix (j / 16))) (j % 16) 0

-- a list's bytes, each xor the keystream byte of its place, the first of which is i
unfoldable pub add_stream : (ℕ → ℕ) → ℕ → List ℕ → List ℕ
add_stream k i [] = []
add_stream k i (x ∷ xs) = x ⊕ k i ∷ add_stream k (suc i) xs

-- the bytes that counter mode leaves of a run whose first byte is byte `first` of what the keystream is added to: as they were where the
-- schedule is refused
unfoldable pub ctr_bytes : Schedule → List ℕ → ℕ → List ℕ → List ℕ
ctr_bytes s prefix first xs = unless_refused (first_of (rounds_cases s.rounds)) (add_stream (keystream s prefix) first xs) xs

-- the contract of counter mode: r is 0, or 3 for a round count that is none of 12, 14 and 16; `after` is what stands in the run that held
-- `before`. A run of any length, from any first byte on, is good
pub record Applied (s : Schedule) (prefix : List ℕ) (first : ℕ) (before : List ℕ) (r : ℕ) (after : List ℕ) : Type 0 where
  pub number : r ≡ first_of (rounds_cases s.rounds)
  pub bytes : after ≡ ctr_bytes s prefix first before
