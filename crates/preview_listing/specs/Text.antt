-- What `drop --preview` prints (02, h: "Before anyone drops a lot, they want to see it"): what `jobs` would print of the archive that
-- dropping would write, under the same keys, or the line of the refusal. It is dropping's refusal, but that there is no 20: a text asks for
-- no room. The theorem is `preview_lists` of proofs/Lists.
-- Assumes nothing.
use Rattle.std.specs.Prelude.{◌≡◌, List, ℕ, take, Result, Ok, Err}
use Rattle.refusals.specs.Numbers.{number}
use Rattle.refusals.specs.Cases.{first_of}
use Rattle.refusals.specs.Answers.{gives, unless_refused}
use Rattle.dropping.specs.Drop.{dropped_file, asked_cases, Drops}
use Rattle.listing.specs.Text.{refused_word, number_line}
use Rattle.listing.specs.Listing.{listing_text, Holds}
use Rattle.listing.specs.declared.Listing.{Listing}
use Rattle.preview_listing.specs.declared.RefusedListing.{RefusedListing}

-- the refusal's number, 0 for none
abbrev pub preview_number : List ℕ → List ℕ → List ℕ → List ℕ → ℕ
preview_number key tag_key file list = first_of (asked_cases key tag_key file list)

-- the text
unfoldable pub preview_text : List ℕ → List ℕ → List ℕ → List ℕ → List ℕ
preview_text key tag_key file list =
    unless_refused (preview_number key tag_key file list) (listing_text key tag_key (dropped_file key tag_key file list))
    (number_line refused_word (preview_number key tag_key file list))

-- what a listing of what is left answers: the refusal's number, 0 for none, and the text
abbrev pub left_number : Result Listing RefusedListing → ℕ
left_number (Ok listing) = 0
left_number (Err e) = number e.refusal

abbrev pub left_text : Result Listing RefusedListing → Listing
left_text (Ok listing) = listing
left_text (Err e) = e.line

-- the contract of listing what is left
pub record ListsLeft (key tag_key file list : List ℕ) (r : Result Listing RefusedListing) : Type 0 where
  pub number : left_number r ≡ preview_number key tag_key file list
  pub text : Holds (preview_text key tag_key file list) (left_text r)

-- whatever call meets the contract of dropping and gives n: there is no refusal, and the text is what `jobs` prints of the n bytes that
-- dropping wrote
abbrev pub PreviewLists : Type 0
PreviewLists = (key tag_key file list before : List ℕ) (n : ℕ) (after : List ℕ) (r : Result Listing RefusedListing)
    → Drops key tag_key file list before (gives n) after → ListsLeft key tag_key file list r
    → (left_number r ≡ 0) × Holds (listing_text key tag_key (take n after)) (left_text r)
