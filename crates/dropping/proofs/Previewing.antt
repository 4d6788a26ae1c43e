-- The ways out of the preview.
-- Assumes nothing.
use mathlib.Core.Path.{◌≡◌, refl, sym, ap, ap₂, ◌∙◌}
use mathlib.Core.Bool.{Bool, cond}
use mathlib.Core.List.{List, ◌++◌}
use Prim.Native.Nat.{ℕ, ◌+◌, ◌*◌, ◌<◌, ◌≤◌}
use native.Mathlib.Omega.{arith}
use borrow.Author.Tests.{lt-ltb, le-ltb, ne_eqb}
use lib.Dec.{eqb}
use lib.ListN.{length, drop}
use Rattle.refusals.specs.Cases.{first_of}
use Rattle.refusals.specs.Answers.{unless_refused}
use Rattle.refusals.proofs.Cases.{first_stop, first_pass, one_applies, one_passes}
use Rattle.refusals.specs.declared.Refusal.{Refusal}
use Rattle.refusals.specs.declared.Refusal.TheVariants.{BufferTooShort}
use Rattle.refusals.specs.Numbers.{number, number_in}
use Rattle.refusals.proofs.Numbers.{number_some, refused_leaves}
use Rattle.std.specs.Prelude.{Result, Ok, Err}
use Rattle.opening.specs.Open.{room_cases}
use Rattle.codec.specs.Jobs.{Job, directory_from}
use Rattle.dropping.specs.Drop.{jobs_left, asked_cases}
use Rattle.dropping.specs.Preview.{directory_left, preview_cases, Previews}
use Rattle.dropping.specs.Internal.{left_all, entries_left, whole_left, Whole, PreviewsMarked}
use Rattle.dropping.specs.declared.Previewed.{Previewed}
use Rattle.dropping.proofs.Cases.{asked_positive}
use Rattle.dropping.proofs.Ways.{directory_sixteen, same_length}

-- ---- by the marks

module _ (named : List Bool) (file before : List ℕ) (whole : Whole file) where
  pub marked_short : length before < 16 * length (left_all named file) → PreviewsMarked named file before (Err BufferTooShort) before
  unfolding room_cases
  marked_short l =
      let sixteen = directory_sixteen named file whole in
      record {
        number = sym (one_applies _ 20 (lt-ltb (length before) (length (entries_left named file)) (omega arith)));
        counted = refl;
        sized = refl;
        bytes = refl;
      }

  pub marked_done : (count size : ℕ) (directory : List ℕ) → 16 * count ≤ length before → count ≡ length (left_all named file)
      → size ≡ whole_left named file → directory ≡ entries_left named file
      → PreviewsMarked named file before (Ok record { count = count; length = size }) (directory ++ drop (16 * count) before)
  unfolding room_cases
  marked_done count size directory l c w d =
      let sixteen = directory_sixteen named file whole in
      record {
        number = sym (one_passes _ 20 (le-ltb (length before) (length (entries_left named file)) (omega arith)));
        counted = c;
        sized = w;
        bytes = ap₂ (λ (l : List ℕ) (n : ℕ). l ++ drop n before) d (omega (arith, sixteen, c));
      }

-- ---- by the list

module _ (key tag_key file list before : List ℕ) where
  pub preview_refused : (e : Refusal) → number e ≡ first_of (asked_cases key tag_key file list)
      → Previews key tag_key file list before (Err e) before
  unfolding preview_cases
  preview_refused e is =
      let test = ne_eqb (number e) 0 (number_some e) in
      record {
        number = is ∙ sym (first_stop (asked_cases key tag_key file list) _ (λ q. number_some e (is ∙ q)));
        counted = rw test;
        sized = rw test;
        bytes = sym (refused_leaves e _ before);
      }

  pub preview_written : first_of (asked_cases key tag_key file list) ≡ 0 → (named : List Bool) → left_all named file ≡ jobs_left file list
      → (r : Result Previewed Refusal) (after : List ℕ) → PreviewsMarked named file before r after
      → Previews key tag_key file list before r after
  unfolding preview_cases directory_left
  preview_written none named left r after p =
      let same : entries_left named file ≡ directory_left file list =
      ap (λ (js : List Job). directory_from (20 + 16 * length js) js) left in
      let pass = first_pass (asked_cases key tag_key file list) (room_cases (length (directory_left file list)) (length before))
      (asked_positive key tag_key file list) none in
      record {
        number = p.number ∙ ap (λ (d : List ℕ). first_of (room_cases (length d) (length before))) same ∙ sym pass;
        counted = p.counted ∙ ap (λ (js : List Job). cond (eqb (number_in r) 0) (length js) 0) left;
        sized = p.sized ∙ ap (λ (n : ℕ). cond (eqb (number_in r) 0) n 0) (same_length key tag_key file list none named left);
        bytes = p.bytes ∙ ap (λ (d : List ℕ). unless_refused (number_in r) (d ++ drop (length d) before) before) same;
      }
