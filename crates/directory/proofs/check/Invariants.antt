-- `directory::check` meets its contract: the invariant says that no entry before i has a case.
use mathlib.Core.Path.{◌≡◌}
use Prim.Native.Nat.{ℕ, ◌<◌}
use Rattle.refusals.specs.Cases.{first_of}
use Rattle.directory.specs.Check.{entry_cases}
use Rattle.directory.proofs.check.Given as goal

abbrev pub invariant-loop-i : goal.invariant-loop-i
invariant-loop-i l = (k : ℕ) → k < l.i → first_of (entry_cases l.directory l.from l.limit k) ≡ 0
