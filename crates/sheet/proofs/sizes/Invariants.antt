-- `sheet::sizes` meets its contract: the invariant has the sum so far, and that it is small.
use mathlib.Core.Path.{◌≡◌}
use Prim.Native.Nat.{◌*◌, ◌≤◌}
use Rattle.sheet.specs.Sheet.{sizes_on}
use Rattle.sheet.proofs.sizes.Given as goal

abbrev pub invariant-loop-i : goal.invariant-loop-i
invariant-loop-i l = (l.sum ≡ sizes_on l.sheet l.i) × (l.sum ≤ l.i * 4294967296)
