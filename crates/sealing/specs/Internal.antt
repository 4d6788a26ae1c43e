-- Internal: what the inner functions promise each other. No public contract cites it.
-- Assumes nothing.
use Rattle.std.specs.Prelude.{◌≡◌, List, [], ◌++◌, ℕ, ◌+◌, ◌*◌, length, Option, Some, None}
use Rattle.refusals.specs.Cases.{first_of}
use Rattle.refusals.specs.Answers.{Answer, answer, written_for}
use Rattle.blocks.specs.Blocks.{row}
use Rattle.circuit.specs.declared.Schedule.{Schedule}
use Rattle.circuit.specs.declared.GoodSchedule.{GoodSchedule}
use Rattle.cmac.specs.Tag.{tag_under}
use Rattle.header.specs.Fields.{layout_under}
use Rattle.admission.specs.Check.{key_check, tag_bytes}
use Rattle.codec.specs.Jobs.{entry_of}
use Rattle.codec.specs.Archive.{header_of}
use Rattle.opening.specs.Open.{under_keystream}
use Rattle.sheet.specs.Sheet.{key_size_on, archive_number_on, lines, job_number_on, size_on, sizes_on}
use Rattle.sealing.specs.Seal.{plain_on, length_on, rest_cases}

-- ---- what is written, line by line

abbrev pub header_on : ℕ → Schedule → List ℕ → List ℕ
header_on layout s sheet = header_of layout (key_size_on sheet) (lines sheet)
    (archive_number_on sheet) (key_check s) (length_on layout sheet)

-- the entry of line i, the first body starting at `from`, and the directory
abbrev pub entry_on : List ℕ → ℕ → ℕ → List ℕ
entry_on sheet from i = entry_of (job_number_on sheet i) (from + sizes_on sheet i) (size_on sheet i)

unfoldable pub directory_on : List ℕ → ℕ → List ℕ
directory_on sheet from = row (entry_on sheet from) (lines sheet)

-- the sealed body of line i, and all
abbrev pub body_on : Schedule → List ℕ → List ℕ → ℕ → List ℕ
body_on s sheet plain i = under_keystream s (archive_number_on sheet) (job_number_on sheet i) (plain_on sheet plain i)

unfoldable pub bodies_on : Schedule → List ℕ → List ℕ → List ℕ
bodies_on s sheet plain = row (body_on s sheet plain) (lines sheet)

-- all but the tag
unfoldable pub front_on : ℕ → Schedule → List ℕ → List ℕ → List ℕ
front_on layout s sheet plain = header_on layout s sheet ++ (directory_on sheet (20 + 16 * lines sheet) ++ bodies_on s sheet plain)

-- ---- the tag key

-- the layout, 2 where there is a schedule of a tag key, and the tag of what was written
abbrev pub layout_in : Option GoodSchedule → ℕ
layout_in None = 1
layout_in (Some t) = 2

abbrev pub tag_in : Option GoodSchedule → List ℕ → List ℕ
tag_in None xs = []
tag_in (Some t) xs = tag_under t.schedule xs

-- the schedule is that of a tag key: none of one of 0 bytes
pub record TagOf (tag_key : List ℕ) (t : Option GoodSchedule) : Type 0 where
  pub layout : layout_in t ≡ layout_under tag_key
  pub bytes : (xs : List ℕ) → tag_in t xs ≡ tag_bytes tag_key xs

-- ---- the contract of sealing after the keys: the tag is that of a rule

pub record SealsRest (layout : ℕ) (tag : List ℕ → List ℕ) (s : Schedule) (sheet plain before : List ℕ) (a : Answer) (after : List ℕ)
    : Type 0 where
  pub answered : a ≡ answer (first_of (rest_cases layout sheet (length plain) (length before))) (length_on layout sheet)
  pub bytes : after ≡ written_for a (front_on layout s sheet plain ++ tag (front_on layout s sheet plain)) before
