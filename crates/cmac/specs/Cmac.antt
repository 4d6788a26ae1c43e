-- CMAC, NIST SP 800-38B, section 6.2 (MAC generation), for a block cipher f of 128-bit blocks and tags of 128 bits, over a message of any
-- number of bytes. L, K1 and K2 are those of section 6.1.
-- Assumes nothing.
use Rattle.std.specs.Prelude.{cond, List, [], ◌∷◌, ◌++◌, ℕ, ◌-◌, ◌*◌, ◌/◌, eqb, length, drop}
use Rattle.blocks.specs.Xor.{xor_block}
use Rattle.blocks.specs.Blocks.{block_of}
use Rattle.blocks.specs.Chains.{zero_block, chained}
use Rattle.subkeys.specs.Subkeys.{subkey1, subkey2}

-- n - 1, the number of blocks before the last (step 2): n is the length in blocks, rounded up, and 1 for the empty message
abbrev pub blocks_before : List ℕ → ℕ
blocks_before m = (length m - 1) / 16

-- Mn*, the last of the message: 1 to 16 bytes, none of the empty message (step 3)
abbrev pub last_part : List ℕ → List ℕ
last_part m = drop (16 * blocks_before m) m

-- Mn from L and Mn* (step 4): K1 ⊕ Mn* where Mn* is a complete block, and else K2 ⊕ (Mn* || 1 || 0 .. 0), as many bits 0 as fill the block:
-- a byte 80 and zero bytes
unfoldable pub last_block : List ℕ → List ℕ → List ℕ
last_block l part = cond (eqb (length part) 16) (xor_block part (subkey1 l)) (xor_block (block_of (part ++ 0x80 ∷ [])) (subkey2 l))

-- Cn, the tag: "Ci = CIPHK(Ci-1 ⊕ Mi)" from C0, the block of zero bytes, on (steps 5 to 7), with L the block of zero bytes encrypted
unfoldable pub mac_of : (List ℕ → List ℕ) → List ℕ → List ℕ
mac_of f m = f (xor_block (chained f zero_block (blocks_before m) m) (last_block (f zero_block) (last_part m)))
