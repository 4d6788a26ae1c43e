-- The text of what dropping would leave: in a buffer of 1,024 bytes the preview has no 20, and its directory is that of the new archive.
-- Assumes nothing.
use mathlib.Core.Path.{◌≡◌, refl, sym, ap, ◌∙◌, subst}
use mathlib.Core.List.{List}
use Prim.Native.Nat.{ℕ, zero, suc, ◌*◌, ◌≤◌}
use lib.ListN.{length, take}
use Rattle.refusals.specs.Answers.{unless_refused}
use Rattle.refusals.specs.declared.Refusal.{Refusal}
use Rattle.refusals.specs.Numbers.{number}
use Rattle.refusals.proofs.Numbers.{number_some}
use Rattle.std.specs.Prelude.{Ok, Err}
use Rattle.dropping.specs.Drop.{dropped_file}
use Rattle.dropping.specs.Preview.{directory_left, preview_cases, Previews}
use Rattle.dropping.specs.declared.Previewed.{Previewed}
use Rattle.dropping.proofs.Cases.{before_room}
use Rattle.dropped_jobs.proofs.Previews.{new_directory, preview_asked, seen_front, preview_bounds}
use Rattle.dropped_jobs.proofs.Leaves as leaves
use Rattle.listing.specs.Text.{refused_word, number_line, directory_text}
use Rattle.listing.specs.Listing.{listing_text, Holds}
use Rattle.listing.specs.declared.Listing.{Listing}
use Rattle.listing.proofs.Directories.{directory_lists}
use Rattle.preview_listing.specs.Text.{preview_number, preview_text, left_text, ListsLeft, PreviewLists}

module _ (key tag_key file list : List ℕ) where
  text_none : preview_number key tag_key file list ≡ 0
      → listing_text key tag_key (dropped_file key tag_key file list) ≡ preview_text key tag_key file list
  unfolding preview_text
  text_none e =
      sym
      (ap (λ (n : ℕ). unless_refused n (listing_text key tag_key (dropped_file key tag_key file list)) (number_line refused_word n)) e)

  text_some : (n : ℕ) → (n ≡ 0 → ⊥) → preview_number key tag_key file list ≡ n
      → number_line refused_word n ≡ preview_text key tag_key file list
  unfolding preview_text
  text_some zero some e = absurd (some refl)
  text_some (suc n) some e =
      sym
      (ap (λ (m : ℕ). unless_refused m (listing_text key tag_key (dropped_file key tag_key file list)) (number_line refused_word m)) e)

  module _ (held seen : List ℕ) where
    -- a refusal in a buffer of 1,024 bytes is not 20
    pub left_refused : (e : Refusal) → Previews key tag_key file list held (Err e) seen → 1024 ≤ length held → (l : Listing)
        → Holds (number_line refused_word (number e)) l
        → ListsLeft key tag_key file list (Err record { refusal = e; line = l })
    unfolding preview_cases
    left_refused e ps room l h =
        let some = number_some e in
        let q = before_room key tag_key file list (length (directory_left file list)) (length held) (number e) some
        ((preview_bounds key tag_key file list held (Err e) seen ps).2 room) (sym ps.number) in
        record { number = sym q; text = subst (λ (t : List ℕ). Holds t l) (text_some (number e) some q) h }

    pub left_listed : (p : Previewed) → Previews key tag_key file list held (Ok p) seen → (l : Listing)
        → Holds (directory_text (take (16 * p.count) seen)) l
        → ListsLeft key tag_key file list (Ok l)
    left_listed p ps l h =
        let none = preview_asked key tag_key file list held (Ok p) seen ps refl in
        let same = seen_front key tag_key file list held (Ok p) seen ps refl ∙ sym (new_directory key tag_key file list none) in
        let text = ap directory_text same
        ∙ directory_lists key tag_key (dropped_file key tag_key file list) _ (leaves.back key tag_key file list none).accepted
        ∙ text_none none in
        record { number = sym none; text = subst (λ (t : List ℕ). Holds t l) text h }

pub preview_lists : PreviewLists
preview_lists key tag_key file list before n after r d lists =
    let none = (leaves.given key tag_key file list before n after d).0 in
    let new = (leaves.parts key tag_key file list before n after d).0 in (
      lists.number ∙ none,
      subst (λ (t : List ℕ). Holds t (left_text r))
          (sym (text_none key tag_key file list none) ∙ ap (listing_text key tag_key) (sym new)) lists.text,
    )
