-- What checking has shown of an archive whose jobs are listed: its directory is printable, and its text is that of its entries.
-- Assumes nothing.
use mathlib.Core.Path.{◌≡◌, sym, ap, ◌∙◌, subst}
use mathlib.Core.List.{List}
use Prim.Native.Nat.{ℕ}
use native.Mathlib.Omega.{arith}
use Rattle.refusals.specs.Cases.{first_of}
use Rattle.refusals.specs.Answers.{Answer, gives, refused}
use Rattle.refusals.proofs.Answers.{answer_gives}
use Rattle.header.specs.Fields.{count_of, directory_of}
use Rattle.directory.specs.Entries.{entries}
use Rattle.admission.specs.Check.{check_cases}
use Rattle.archive.specs.Check.{check_of}
use Rattle.admission.proofs.Accepted.{accepted_header, accepted_entries, accepted_within}
use Rattle.listing.specs.Text.{refused_word, number_line, text_of}
use Rattle.listing.specs.Listing.{listing_text}
use Rattle.listing.specs.Internal.{Printable}

-- d is the directory of a file that is accepted with n jobs
module _ (key tag_key file : List ℕ) (n : ℕ) (e : gives n ≡ check_of key tag_key file) (d : List ℕ) (ed : d ≡ directory_of file) where
  told : (first_of (check_cases key tag_key file) ≡ 0) × (count_of file ≡ n)
  told = answer_gives (first_of (check_cases key tag_key file)) (count_of file) n (sym e)

  pub given_printable : Printable d
  given_printable =
      let header = accepted_header _ key tag_key file told.0 in
      let within = accepted_within _ key tag_key file told.0 in
      subst Printable (sym ed) record {
        few = omega (arith, accepted_entries _ key tag_key file told.0);
        starts = λ i l. omega (arith, within i l);
        sizes = λ i l. omega (arith, within i l);
      }

  pub given_text : text_of (gives (entries d)) d ≡ listing_text key tag_key file
  given_text =
      ap (λ (l : List ℕ). text_of (gives (entries l)) l) ed
      ∙ ap (λ (m : ℕ). text_of (gives m) (directory_of file)) (accepted_entries _ key tag_key file told.0 ∙ told.1)
      ∙ ap (λ (a : Answer). text_of a (directory_of file)) e

pub refused_text : (key tag_key file : List ℕ) (n : ℕ) → refused n ≡ check_of key tag_key file
    → number_line refused_word n ≡ listing_text key tag_key file
unfolding text_of
refused_text key tag_key file n e = ap (λ (a : Answer). text_of a (directory_of file)) e
