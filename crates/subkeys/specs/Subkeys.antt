-- The subkeys of CMAC, NIST SP 800-38B, section 6.1, for blocks of 128 bits (02, c: "The subkey rule uses the constant `87` for 128-bit
-- blocks"). They come from L, the block of zero bytes encrypted; here L is any block.
-- Assumes nothing.
use Rattle.std.specs.Prelude.{Bool, cond, List, [], ◌∷◌, ◌++◌, ℕ, ◌+◌, ◌*◌, ◌/◌, ◌%◌, ltb, get_or, replicate}
use Rattle.blocks.specs.Xor.{xor_block}

-- b << 1, the standard's shift by one bit: each byte loses its top bit and gains that of the byte after it, the last one a 0
unfoldable pub shifted_left : List ℕ → List ℕ
shifted_left [] = []
shifted_left (x ∷ xs) = (x * 2 % 256 + get_or xs 0 0 / 128) ∷ shifted_left xs

-- the standard's R for 128 bits: 120 bits 0, and then 10000111
unfoldable pub r128 : List ℕ
r128 = replicate 15 0 ++ 0x87 ∷ []

-- "If MSB1(L) = 0, then K1 = L << 1; Else K1 = (L << 1) ⊕ Rb" (step 2; step 3 likewise, from K1 to K2)
unfoldable pub doubled : List ℕ → List ℕ
doubled b = cond (ltb (get_or b 0 0) 128) (shifted_left b) (xor_block (shifted_left b) r128)

-- K1 and K2 from L
abbrev pub subkey1 : List ℕ → List ℕ
subkey1 l = doubled l

abbrev pub subkey2 : List ℕ → List ℕ
subkey2 l = doubled (subkey1 l)

-- the one that is added to the last block of a message (section 6.2, step 4): K1 where the message filled the block, and else K2
unfoldable pub subkey_for : Bool → List ℕ → List ℕ
subkey_for complete l = cond complete (subkey1 l) (subkey2 l)
