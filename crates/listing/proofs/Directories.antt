-- Which directories have lines that fit, test by test, and that those of accepted archives do.
-- Assumes nothing.
use mathlib.Core.Path.{◌≡◌, refl, sym, ◌∙◌}
use mathlib.Core.Bool.{true, false}
use mathlib.Core.List.{List, []}
use Prim.Native.Nat.{ℕ, ◌<◌, ◌≤◌}
use native.Mathlib.Omega.{arith}
use borrow.Author.Tests.{ltb-true, lt-ltb, le-ltb}
use lib.Dec.{ltb}
use Rattle.refusals.specs.Answers.{gives}
use Rattle.refusals.proofs.Booleans.{both_true}
use Rattle.octets.specs.Below.{all_below}
use Rattle.octets.proofs.Below.{all_yes, all_no, all_each}
use Rattle.header.specs.Fields.{directory_of}
use Rattle.directory.specs.Entries.{entries, entry_at, start_of, size_of}
use Rattle.listing.specs.Text.{text_of, is_short, is_printable, directory_text}
use Rattle.listing.specs.Listing.{DirectoryLists}
use Rattle.listing.specs.Internal.{Printable}
use Rattle.listing.proofs.Accepted.{given_printable, given_text}

-- ---- an entry

pub short_no : (e : List ℕ) → 99999 < start_of e → false ≡ is_short e
unfolding is_short
short_no e l = rw (le-ltb (start_of e) 100000 (omega arith))

pub short_rest : (e : List ℕ) → start_of e ≤ 99999 → ltb (size_of e) 100000 ≡ is_short e
unfolding is_short
short_rest e l = rw (lt-ltb (start_of e) 100000 (omega arith))

-- ---- a directory

module _ (d : List ℕ) where
  pub printable_many : 64 < entries d → false ≡ is_printable d
  unfolding is_printable
  printable_many l = rw (le-ltb (entries d) 65 (omega arith))

  module _ (few : entries d ≤ 64) where
    all_entries : all_below (λ (i : ℕ). is_short (entry_at d i)) (entries d) ≡ is_printable d
    unfolding is_printable
    all_entries = rw (lt-ltb (entries d) 65 (omega arith))

    pub printable_no : (i : ℕ) → i < entries d → is_short (entry_at d i) ≡ false → false ≡ is_printable d
    printable_no i l e = sym (all_no _ (entries d) i l e) ∙ all_entries

    pub printable_all : ((i : ℕ) → i < entries d → is_short (entry_at d i) ≡ true) → true ≡ is_printable d
    printable_all h = sym (all_yes _ (entries d) h) ∙ all_entries

  -- the test is what the lines need
  pub printable_lines : is_printable d ≡ true → Printable d
  unfolding is_printable is_short
  printable_lines e =
      let parts = both_true (ltb (entries d) 65) _ e in
      let few : entries d < 65 = ltb-true (entries d) 65 parts.0 in
      let short : (i : ℕ) → i < entries d → (start_of (entry_at d i) < 100000) × (size_of (entry_at d i) < 100000) =
      λ i l. let both = both_true (ltb (start_of (entry_at d i)) 100000) _ (all_each _ (entries d) parts.1 i l) in
      (ltb-true (start_of (entry_at d i)) 100000 both.0, ltb-true (size_of (entry_at d i)) 100000 both.1) in
      record { few = omega arith; starts = λ i l. (short i l).0; sizes = λ i l. (short i l).1 }

  lines_printable : Printable d → is_printable d ≡ true
  unfolding is_short
  lines_printable p =
      sym
      (printable_all p.few
      (λ i l. rw (lt-ltb (start_of (entry_at d i)) 100000 (p.starts i l)) (lt-ltb (size_of (entry_at d i)) 100000 (p.sizes i l))))

  pub text_printable : is_printable d ≡ true → text_of (gives (entries d)) d ≡ directory_text d
  unfolding directory_text
  text_printable e = rw e

  pub text_else : is_printable d ≡ false → [] ≡ directory_text d
  unfolding directory_text
  text_else e = rw e

pub directory_lists : DirectoryLists
directory_lists key tag_key file n e =
    let printable = lines_printable (directory_of file) (given_printable key tag_key file n (sym e) (directory_of file) refl) in
    sym (text_printable (directory_of file) printable) ∙ given_text key tag_key file n (sym e) (directory_of file) refl

-- the ways out of the test, and of the text
pub ruleset printable_ways = (printable_many, printable_no, printable_all)

pub ruleset text_ways = (printable_lines, text_printable, text_else)
