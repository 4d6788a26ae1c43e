-- What an accepted archive has, of either layout, and that a file with good keys, a header without a case, a sound directory and the right
-- tag is accepted; the theorems are `sound_archives` and `accepted_archives` of proofs/Sound.
-- Assumes nothing.
use Rattle.std.specs.Prelude.{◌≡◌, List, ◌++◌, ℕ, ◌+◌, length, take}
use Rattle.blocks.specs.Blocks.{row}
use Rattle.refusals.specs.Cases.{first_of}
use Rattle.refusals.specs.Answers.{gives}
use Rattle.refusals.specs.Shared.{key_cases, tag_key_cases}
use Rattle.expansion.specs.KeySchedule.{schedule_of}
use Rattle.header.specs.Fields.{layout_of, layout_under, tag_size, count_of, directory_end, directory_of, bodies_end, tag_of, tagged_of}
use Rattle.header.specs.Cases.{header_cases}
use Rattle.directory.specs.Entries.{entries}
use Rattle.directory.specs.Sound.{Sound}
use Rattle.bodies.specs.Bodies.{body_at}
use Rattle.admission.specs.Check.{key_check, tag_bytes}
use Rattle.archive.specs.Check.{check_of}

-- the bodies of the first n jobs, in a row
unfoldable pub bodies : List ℕ → ℕ → List ℕ
bodies file n = row (body_at file) n

-- what an accepted archive has under a tag key: the layout of it, 1 where there is none; a sound directory of as many entries as there are
-- jobs; bodies that tile the file from the directory's end to where the tag lies, sixteen bytes before the file's end, or in layout 1 to
-- the file's end; and the tag of all bytes before it
pub record SoundArchive (tag_key file : List ℕ) (n : ℕ) : Type 0 where
  pub layout : layout_of file ≡ layout_under tag_key
  pub counted : entries (directory_of file) ≡ n
  pub sound : Sound (directory_of file) (directory_end file) (bodies_end file)
  pub tiled : take (directory_end file) file ++ bodies file n ≡ tagged_of file
  pub placed : bodies_end file + tag_size (layout_under tag_key) ≡ length file
  pub tagged : tagged_of file ++ tag_bytes tag_key (tagged_of file) ≡ file

abbrev pub SoundArchives : Type 0
SoundArchives = (key tag_key file : List ℕ) (n : ℕ) → check_of key tag_key file ≡ gives n → SoundArchive tag_key file n

-- and nothing more is asked for: with good keys, a header without a case, a sound directory and the right tag a file is accepted
abbrev pub AcceptedArchives : Type 0
AcceptedArchives = (key tag_key file : List ℕ) → first_of (key_cases (length key)) ≡ 0 → first_of (tag_key_cases (length tag_key)) ≡ 0
    → first_of (header_cases (layout_under tag_key) (length key) (key_check (schedule_of key)) file) ≡ 0
    → Sound (directory_of file) (directory_end file) (bodies_end file) → tag_of file ≡ tag_bytes tag_key (tagged_of file)
    → check_of key tag_key file ≡ gives (count_of file)
