-- What dropping answers on an accepted archive, by its entries: every list has one of the five answers below, so that 19 says that a number
-- is missing from every entry, and no good list is turned away. The theorem is `drop_answers` of proofs/Answers.
-- Assumes nothing.
use Rattle.std.specs.Prelude.{◌≡◌, true, false, List, ℕ, ◌%◌, ◌<◌, ◌≤◌, length}
use Rattle.refusals.specs.Answers.{Answer, refused, gives}
use Rattle.header.specs.Fields.{count_of, directory_of}
use Rattle.jobnumber.specs.Number.{is_job_number}
use Rattle.directory.specs.Entries.{entry_at, number_of}
use Rattle.archive.specs.Check.{check_of}
use Rattle.joblist.specs.List.{numbers, listed}
use Rattle.dropping.specs.Drop.{length_left, Drops}

-- some entry of a file bears a number
abbrev pub Borne : List ℕ → List ℕ → Type 0
Borne file number = (i : ℕ) × (i < count_of file) × (number_of (entry_at (directory_of file) i) ≡ number)

-- a list of whole numbers, each borne by an entry, is accepted where the new archive fits into the buffer, and else gets 20; one that is
-- not of whole numbers gets 27; else the first number that is no job number, or that no entry bears, decides: 18 or 19
pub record DropAnswer (tag_key file list before : List ℕ) (a : Answer) : Type 0 where
  pub ragged : (length list % 8 ≡ 0 → ⊥) → a ≡ refused 27
  pub no_number : length list % 8 ≡ 0 → (k : ℕ) → k < numbers list → ((j : ℕ) → j < k → Borne file (listed list j))
      → is_job_number (listed list k) ≡ false → a ≡ refused 18
  pub missing : length list % 8 ≡ 0 → (k : ℕ) → k < numbers list → ((j : ℕ) → j < k → Borne file (listed list j))
      → is_job_number (listed list k) ≡ true → (Borne file (listed list k) → ⊥) → a ≡ refused 19
  pub short : length list % 8 ≡ 0 → ((k : ℕ) → k < numbers list → Borne file (listed list k))
      → length before < length_left tag_key file list → a ≡ refused 20
  pub accepted : length list % 8 ≡ 0 → ((k : ℕ) → k < numbers list → Borne file (listed list k))
      → length_left tag_key file list ≤ length before → a ≡ gives (length_left tag_key file list)

-- of any call that meets the contract, on a file that is accepted
abbrev pub DropAnswers : Type 0
DropAnswers = (key tag_key file list before : List ℕ) (count : ℕ) (a : Answer) (after : List ℕ) → check_of key tag_key file ≡ gives count
    → Drops key tag_key file list before a after → DropAnswer tag_key file list before a
