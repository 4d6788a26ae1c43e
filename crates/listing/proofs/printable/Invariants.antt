-- `listing::printable` meets its contract: the entries before i are short.
use mathlib.Core.Path.{◌≡◌}
use mathlib.Core.Bool.{true}
use Prim.Native.Nat.{ℕ, ◌<◌}
use Rattle.directory.specs.Entries.{entry_at}
use Rattle.listing.specs.Text.{is_short}
use Rattle.listing.proofs.printable.Given as goal

abbrev pub invariant-loop-i : goal.invariant-loop-i
invariant-loop-i l = (k : ℕ) → k < l.i → is_short (entry_at l.directory k) ≡ true
