-- "an accepted archive rebuilt from its own jobs, under the same key, with its own archive number and its key length on the sheet, must
-- come out byte for byte" (02, a), in both layouts, "rebuilding under the same tag key" (02, d). The theorem is `seal_rebuilds` of
-- proofs/Rebuilds.
-- Assumes nothing.
use Rattle.std.specs.Prelude.{◌≡◌, List, ◌++◌, ℕ, ◌≤◌, length, take, drop}
use Rattle.refusals.specs.Answers.{Answer, gives}
use Rattle.octets.specs.Numbers.{Octets}
use Rattle.archive.specs.Check.{check_of}
use Rattle.sheet.specs.Sheet.{key_size_of}
use Rattle.sealing.specs.Seal.{Seals}
use Rattle.sealing.specs.OwnJobs.{sheet_of, plains_of}

-- what a call on the sheet and the plain bytes of a file's own jobs answers and leaves
pub record Rebuilds (file before : List ℕ) (a : Answer) (after : List ℕ) : Type 0 where
  pub answered : a ≡ gives (length file)
  pub bytes : after ≡ file ++ drop (length file) before

-- a file of bytes that is accepted under a key and a tag key; a key file that begins with the key; a first byte that means the key's
-- length, so that length, or 0 where it is 32 (02, j); a buffer long enough; and any call that meets the contract of sealing
abbrev pub SealRebuilds : Type 0
SealRebuilds = (key tag_key file key_file : List ℕ) (n k : ℕ) (before : List ℕ) (a : Answer) (after : List ℕ) → Octets file
    → check_of key tag_key file ≡ gives n → take (length key) key_file ≡ key → key_size_of k ≡ length key → length file ≤ length before
    → Seals key_file tag_key (sheet_of k file) (plains_of key file) before a after → Rebuilds file before a after
