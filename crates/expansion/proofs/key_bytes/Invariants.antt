-- `expansion::key_bytes` meets its contract: after i turns the first i keys are in their places.
use Rattle.std.proofs.Common.{◌≡◌, List, ℕ, ◌<◌}
use Rattle.expansion.proofs.KeyBytes.{Placed}
use Rattle.expansion.proofs.key_bytes.Given as goal

abbrev pub invariant-loop-i : goal.invariant-loop-i
invariant-loop-i g l =
    (rule : ℕ → List ℕ) → ((i : ℕ) (k : List ℕ) → i < l.n → goal.F-post g l.key i k → k ≡ rule i) → Placed rule l.i l.out
