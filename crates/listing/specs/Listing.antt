-- The listing by value: what a `Listing` holds, and the promise of making one.
-- Assumes nothing.
use Rattle.std.specs.Prelude.{◌≡◌, List, ◌++◌, ℕ, ◌-◌, ◌≤◌, length, take, replicate}
use Rattle.refusals.specs.Answers.{gives}
use Rattle.header.specs.Fields.{directory_of}
use Rattle.archive.specs.Check.{check_of}
use Rattle.listing.specs.Text.{text_of, directory_text}
use Rattle.listing.specs.declared.Listing.{Listing}

-- the text that `jobs` prints for a key, a tag key and a file
abbrev pub listing_text : List ℕ → List ℕ → List ℕ → List ℕ
listing_text key tag_key file = text_of (check_of key tag_key file) (directory_of file)

-- the directory of an accepted archive has the text that `jobs` prints for the archive; the theorem is `directory_lists` of
-- proofs/Directories
abbrev pub DirectoryLists : Type 0
DirectoryLists = (key tag_key file : List ℕ) (n : ℕ) → check_of key tag_key file ≡ gives n
    → directory_text (directory_of file) ≡ listing_text key tag_key file

-- r holds the text s: its length, and the text at the front of the buffer with zeros behind it. The last two follow from these; they are
-- what writing the front of the buffer asks
pub record Holds (s : List ℕ) (r : Listing) : Type 0 where
  pub size : r.length ≡ length s
  pub text : r.text ≡ s ++ replicate (1352 - length s) 0
  pub within : r.length ≤ length r.text
  pub front : r.length ≡ length (take r.length r.text)
