-- A chain over the blocks of a run, over any function f of a block: the value so far plus the next block, through f. With a block cipher
-- for f it is CBC-MAC's (SP 800-38B, section 6.2, step 6: "Ci = CIPHK(Ci-1 ⊕ Mi)").
-- Assumes nothing.
use Rattle.std.specs.Prelude.{List, ℕ, zero, suc, replicate}
use Rattle.blocks.specs.Xor.{xor_block}
use Rattle.blocks.specs.Blocks.{block_at}

-- the block of zero bytes
abbrev pub zero_block : List ℕ
zero_block = replicate 16 0

-- from a block on, the first k blocks of a run taken in
unfoldable pub chained : (List ℕ → List ℕ) → List ℕ → ℕ → List ℕ → List ℕ
chained f start zero xs = start
chained f start (suc k) xs = f (xor_block (chained f start k xs) (block_at k xs))
