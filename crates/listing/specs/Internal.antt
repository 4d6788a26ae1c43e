-- Internal: what the inner functions promise each other. No public contract cites it.
-- Assumes nothing.
use Rattle.std.specs.Prelude.{◌≡◌, List, ◌++◌, ℕ, ◌+◌, ◌≤◌, ◌<◌, length}
use Rattle.arrayvec.specs.ArrayVec.{ArrayVec, array_vec_len}
use Rattle.directory.specs.Entries.{entries, entry_at, start_of, size_of}

-- a directory whose listing fits into the buffer, as that of an accepted archive: 64 entries at most, with starts and lengths of five
-- digits at most
pub record Printable (d : List ℕ) : Type 0 where
  pub few : entries d ≤ 64
  pub starts : (i : ℕ) → i < entries d → start_of (entry_at d i) < 100000
  pub sizes : (i : ℕ) → i < entries d → size_of (entry_at d i) < 100000

-- s is put behind a text that has room for it
pub record Puts (before : ArrayVec ℕ) (s : List ℕ) (after : ArrayVec ℕ) : Type 0 where
  pub put : array_vec_len before + length s ≤ 1352 → after.items ≡ before.items ++ s
