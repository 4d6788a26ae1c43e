-- Internal: what the inner functions promise each other. No public contract cites it.
-- Assumes nothing.
use Rattle.std.specs.Prelude.{List, ℕ, ◌+◌}
use Rattle.blocks.specs.Blocks.{row}
use Rattle.ctr.specs.Counter.{counter_block}

-- n counter blocks in a row, the first of which is counter block i
abbrev pub counter_blocks : List ℕ → ℕ → ℕ → List ℕ
counter_blocks prefix i n = row (λ (j : ℕ). counter_block prefix (i + j)) n
