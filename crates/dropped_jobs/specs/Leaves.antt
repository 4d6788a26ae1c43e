-- What dropping leaves (02, g), as statements on any call that meets its contract. The theorems are `drop_leaves`, `drop_shortens`,
-- `drop_none`, `drop_once` and `drop_all` of proofs/Leaves. What it answers is for specs/Answers.
-- Assumes nothing.
use Rattle.std.specs.Prelude.{◌≡◌, true, List, [], ◌++◌, ℕ, ◌+◌, ◌%◌, ◌<◌, ◌≤◌, length, take, drop}
use Rattle.refusals.specs.Answers.{Answer, refused, gives, refusal_in}
use Rattle.octets.specs.Numbers.{Octets}
use Rattle.header.specs.Fields.{layout_of, tag_size, key_length_of, count_of, archive_number, directory_of}
use Rattle.directory.specs.Entries.{entry_at, number_of}
use Rattle.archive.specs.Check.{check_of}
use Rattle.archive.specs.Find.{body_given, Finds}
use Rattle.opening.specs.Open.{job_size, Opens}
use Rattle.codec.specs.Archive.{jobs_of}
use Rattle.joblist.specs.List.{numbers, listed, is_listed}
use Rattle.dropping.specs.Drop.{jobs_left, Drops}
use Rattle.dropped_jobs.specs.Answers.{Borne}

-- a number that is not in the list, on what is left: finding it is refused with the same number, or not refused, as on the old file; the
-- same sealed body is handed back; and whatever a call that meets the contract of opening does with the new file, of the whole job or of
-- any range, meets that contract with the old one. Also of a number that the archive never had: 18 or 19, as before
pub record AsBefore (key tag_key file new number : List ℕ) : Type 0 where
  pub finds : (a b : Answer) → Finds key tag_key new number a → Finds key tag_key file number b → refusal_in a ≡ refusal_in b
  pub body : body_given key tag_key new number ≡ body_given key tag_key file number
  pub size : job_size new number ≡ job_size file number
  pub opens : (first count : ℕ) (before : List ℕ) (a : Answer) (after : List ℕ)
      → Opens key tag_key new number first count before a after → Opens key tag_key file number first count before a after

-- one that is in the list: any call that meets the contract of finding answers 19, no body is handed back, and any call that meets the
-- contract of opening answers 19 and alters no byte
pub record Gone (key tag_key new number : List ℕ) : Type 0 where
  pub finds : (a : Answer) → Finds key tag_key new number a → a ≡ refused 19
  pub body : body_given key tag_key new number ≡ []
  pub opens : (first count : ℕ) (before : List ℕ) (a : Answer) (after : List ℕ) → Opens key tag_key new number first count before a after
      → (a ≡ refused 19) × (after ≡ before)

-- a file of n bytes is what dropping a list leaves of another: it is accepted under the same keys, of the same layout, key length and
-- archive number (`named`), and its jobs are those left, in their order, with their sealed bytes
pub record LeftArchive (key tag_key file list new : List ℕ) (n : ℕ) : Type 0 where
  pub size : length new ≡ n
  pub accepted : check_of key tag_key new ≡ gives (length (jobs_left file list))
  pub layout : layout_of new ≡ layout_of file
  pub keyed : key_length_of new ≡ key_length_of file
  pub named : archive_number new ≡ archive_number file
  pub jobs : jobs_of new ≡ jobs_left file list
  pub stays : (number : List ℕ) → ((k : ℕ) → k < numbers list → listed list k ≡ number → ⊥) → AsBefore key tag_key file new number
  pub gone : (k : ℕ) → k < numbers list → Gone key tag_key new (listed list k)

-- of any call that meets the contract of dropping and gives n, the first n bytes of the buffer are that, and the rest is as it was
pub record DropLeft (key tag_key file list before : List ℕ) (n : ℕ) (after : List ℕ) : Type 0 where
  pub archive : LeftArchive key tag_key file list (take n after) n
  pub rest : drop n after ≡ drop n before

abbrev pub DropLeaves : Type 0
DropLeaves = (key tag_key file list before : List ℕ) (n : ℕ) (after : List ℕ) → Drops key tag_key file list before (gives n) after
    → DropLeft key tag_key file list before n after

-- the new archive is no longer than the old one: a buffer of the file's length is long enough, so that 20 is never its answer
abbrev pub DropShortens : Type 0
DropShortens = (key tag_key file list before : List ℕ) (a : Answer) (after : List ℕ) → Drops key tag_key file list before a after
    → ((n : ℕ) → a ≡ gives n → n ≤ length file) × (length file ≤ length before → a ≡ refused 20 → ⊥)

-- a list of no numbers leaves an accepted file of bytes as it is, byte for byte, in a buffer long enough
abbrev pub DropNone : Type 0
DropNone =
    (key tag_key file before : List ℕ) (count : ℕ) (a : Answer) (after : List ℕ) → Octets file → check_of key tag_key file ≡ gives count
    → length file ≤ length before → Drops key tag_key file [] before a after
    → (a ≡ gives (length file)) × (after ≡ file ++ drop (length file) before)

-- "A number listed twice counts once": how often a number is listed, and in which order, does not matter. Where a list is accepted and
-- gives n, another of whole numbers that has the same ones gives n too, in any buffer long enough, and writes the same archive
abbrev pub DropOnce : Type 0
DropOnce = (key tag_key file list other before held : List ℕ) (n : ℕ) (after : List ℕ) (a : Answer) (left : List ℕ)
    → ((number : List ℕ) → is_listed list number ≡ is_listed other number) → length other % 8 ≡ 0 → n ≤ length held
    → Drops key tag_key file list before (gives n) after → Drops key tag_key file other held a left
    → (a ≡ gives n) × (left ≡ take n after ++ drop n held)

-- "an archive of no jobs may result": a list of the numbers of all entries and of no others, in whole numbers, is accepted where there is
-- room for header and tag, and what is left has no other bytes, and is accepted, with no jobs
abbrev pub DropAll : Type 0
DropAll = (key tag_key file list before : List ℕ) (count : ℕ) (a : Answer) (after : List ℕ) → check_of key tag_key file ≡ gives count
    → length list % 8 ≡ 0 → ((k : ℕ) → k < numbers list → Borne file (listed list k))
    → ((i : ℕ) → i < count_of file → is_listed list (number_of (entry_at (directory_of file) i)) ≡ true)
    → 20 + tag_size (layout_of file) ≤ length before → Drops key tag_key file list before a after
    → (a ≡ gives (20 + tag_size (layout_of file))) × (check_of key tag_key (take (20 + tag_size (layout_of file)) after) ≡ gives 0)
