-- What a chain under a schedule comes to, and a run as blocks of its own.
-- Assumes nothing.
use mathlib.Core.Path.{◌≡◌, refl, ap, ◌∙◌}
use mathlib.Core.Bool.{Bool}
use mathlib.Core.List.{List, []}
use Prim.Native.Nat.{ℕ, zero, suc, ◌+◌, ◌*◌, ◌<◌}
use native.Mathlib.Omega.{arith}
use lib.ListN.{length, get_or, take, drop}
use lib.Seq.{drop-drop}
use Rattle.std.specs.Simd.{first_chunks}
use Rattle.refusals.specs.Answers.{unless_refused}
use Rattle.blocks.specs.Blocks.{block_at}
use Rattle.blocks.specs.Chains.{zero_block}
use Rattle.circuit.specs.Run.{run_number}
use Rattle.circuit.specs.declared.Schedule.{Schedule}
use Rattle.tables.specs.Chain.{chain_end, Chains}

module _ (s : Schedule) (run last : List ℕ) (complete : Bool) where
  -- the end of a chain that is not refused
  pub chain_end_lem : run_number s.rounds (length run) ≡ 0 → (r : ℕ) (end : List ℕ) → Chains s run last complete r end
      → end ≡ chain_end s run last complete
  chain_end_lem z r end c = c.block ∙ ap (λ (k : ℕ). unless_refused k (chain_end s run last complete) zero_block) z

-- a run as blocks of its own has them where they lie in it
pub chunk_at : (n k : ℕ) (xs : List ℕ) → k < n → get_or (first_chunks 16 n xs) k [] ≡ block_at k xs
chunk_at zero k xs h = absurd (omega arith)
chunk_at (suc n) zero xs h = refl
chunk_at (suc n) (suc k) xs h =
    let next : 16 + 16 * k ≡ 16 * suc k = omega arith in
    chunk_at n k (drop 16 xs) (omega arith) ∙ ap (take 16) (drop-drop (16 * k) 16 xs ∙ ap (λ (j : ℕ). drop j xs) next)
