-- An entry of a directory: sixteen bytes, or none.
-- Assumes nothing.
use mathlib.Core.Path.{◌≡◌}
use mathlib.Core.List.{List, []}
use Prim.Native.Nat.{ℕ, ◌*◌, ◌<◌, ◌≤◌}
use borrow.Author.Tests.{lt-ltb, le-ltb}
use lib.ListN.{take, drop}
use Rattle.directory.specs.Entries.{entries, entry_at}

pub entry_inside : (d : List ℕ) (i : ℕ) → i < entries d → entry_at d i ≡ take 16 (drop (16 * i) d)
unfolding entry_at
entry_inside d i l = rw (lt-ltb i (entries d) l)

pub entry_none : (d : List ℕ) (i : ℕ) → entries d ≤ i → entry_at d i ≡ []
unfolding entry_at
entry_none d i l = rw (le-ltb i (entries d) l)
