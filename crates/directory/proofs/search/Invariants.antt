-- `directory::search` meets its contract: the invariant says that the search ends at no entry before i.
use mathlib.Core.Path.{◌≡◌}
use mathlib.Core.Bool.{false}
use Prim.Native.Nat.{ℕ, ◌<◌}
use Rattle.directory.specs.Search.{ends_at}
use Rattle.directory.proofs.search.Given as goal

abbrev pub invariant-loop-i : goal.invariant-loop-i
invariant-loop-i l = (k : ℕ) → k < l.i → ends_at l.directory l.number k ≡ false
