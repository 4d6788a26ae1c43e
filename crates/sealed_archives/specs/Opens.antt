-- "What is written must open to the plain bodies" (02, a): whatever sealing gives is accepted, lists the sheet's jobs, and opens to their
-- plain bodies, which end to end are all the plain bytes. The theorem is `sealed_opens` of proofs/Opens.
-- Assumes nothing.
use Rattle.std.specs.Prelude.{◌≡◌, List, ◌++◌, ℕ, ◌+◌, ◌*◌, ◌<◌, ◌≤◌, length, take, drop}
use Rattle.refusals.specs.Answers.{Answer, gives}
use Rattle.blocks.specs.Blocks.{row}
use Rattle.header.specs.Fields.{layout_of, layout_under, key_length_of, archive_number, directory_of}
use Rattle.directory.specs.Entries.{entry_at, number_of, start_of, size_of}
use Rattle.archive.specs.Check.{check_of}
use Rattle.opening.specs.Open.{job_size, range_of, Opens}
use Rattle.sheet.specs.Sheet.{key_size_on, archive_number_on, lines, job_number_on, size_on, sizes_on}
use Rattle.sealing.specs.Seal.{key_on, plain_on, Seals}

-- any call that meets the contract of opening gives the plain bytes of the job, the whole and any range of it, in any buffer long enough
pub record OpensTo (key tag_key file number plain : List ℕ) : Type 0 where
  pub whole : (before : List ℕ) (a : Answer) (after : List ℕ) → length plain ≤ length before
      → Opens key tag_key file number 0 (job_size file number) before a after
      → (a ≡ gives (length plain)) × (after ≡ plain ++ drop (length plain) before)
  pub range : (first count : ℕ) (before : List ℕ) (a : Answer) (after : List ℕ) → first + count ≤ length plain → count ≤ length before
      → Opens key tag_key file number first count before a after
      → (a ≡ gives count) × (after ≡ range_of first count plain ++ drop count before)

-- a file of n bytes is the archive of a sheet and of plain bytes: its layout is 2 where there is a tag key, its header says the key's
-- length, never 0, and the sheet's archive number, its entries are the sheet's jobs, and each opens to its plain bytes
pub record SealedArchive (key tag_key sheet plain file : List ℕ) (n : ℕ) : Type 0 where
  pub size : length file ≡ n
  pub accepted : check_of key tag_key file ≡ gives (lines sheet)
  pub layout : layout_of file ≡ layout_under tag_key
  pub keyed : key_length_of file ≡ key_size_on sheet
  pub named : archive_number file ≡ archive_number_on sheet
  pub numbers : (i : ℕ) → i < lines sheet → number_of (entry_at (directory_of file) i) ≡ job_number_on sheet i
  pub starts : (i : ℕ) → i < lines sheet → start_of (entry_at (directory_of file) i) ≡ 20 + 16 * lines sheet + sizes_on sheet i
  pub sizes : (i : ℕ) → i < lines sheet → size_of (entry_at (directory_of file) i) ≡ size_on sheet i
  pub opens : (i : ℕ) → i < lines sheet → OpensTo key tag_key file (job_number_on sheet i) (plain_on sheet plain i)
  pub measured : (i : ℕ) → i < lines sheet → length (plain_on sheet plain i) ≡ size_on sheet i
  pub all : row (plain_on sheet plain) (lines sheet) ≡ plain

-- of any call that meets the contract of sealing and gives n, the first n bytes of the buffer are that archive, under the key that the
-- sheet cuts from the key file, and the rest is as it was
pub record SealedOpen (key_file tag_key sheet plain before : List ℕ) (n : ℕ) (after : List ℕ) : Type 0 where
  pub archive : SealedArchive (key_on key_file sheet) tag_key sheet plain (take n after) n
  pub rest : drop n after ≡ drop n before

abbrev pub SealedOpens : Type 0
SealedOpens = (key_file tag_key sheet plain before : List ℕ) (n : ℕ) (after : List ℕ)
    → Seals key_file tag_key sheet plain before (gives n) after → SealedOpen key_file tag_key sheet plain before n after
