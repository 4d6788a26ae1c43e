-- The cases of a directory: which numbers they have, and that of the bytes after the last body.
-- Assumes nothing.
use mathlib.Core.Path.{◌≡◌, refl, sym, ◌∙◌}
use mathlib.Core.Bool.{Bool, true, not, ◌&&◌}
use mathlib.Core.List.{List}
use Prim.Native.Nat.{ℕ, ◌<◌}
use borrow.Author.Tests.{eq-eqb, ne_eqb, eqb-true, not-false}
use lib.Dec.{eqb}
use Rattle.refusals.specs.Cases.{first_of, item_by_item, positive, lacks}
use Rattle.refusals.proofs.Booleans.{both_true}
use Rattle.refusals.proofs.Cases.{clear, one_applies, one_passes, first_stop, first_pass, positive_append, lacks_append}
use Rattle.refusals.proofs.Cases.{items_positive, items_lacks, items_stop, items_pass}
use Rattle.refusals.proofs.Numbers.{number_some}
use Rattle.refusals.specs.Numbers.{number}
use Rattle.refusals.specs.declared.Refusal.{Refusal}
use Rattle.directory.specs.Entries.{entries}
use Rattle.directory.specs.Check.{body_from, entry_cases_by, rest_cases, directory_cases_by}

-- m is the number of no case of an entry, and of no case at all: computed where m is a numeral
abbrev pub not_of_entry : ℕ → Bool
not_of_entry m = not (eqb 13 m) && (not (eqb 14 m) && (not (eqb 15 m) && (not (eqb 16 m) && true)))

abbrev pub not_of_directory : ℕ → Bool
not_of_directory m = not_of_entry m && (not (eqb 17 m) && true)

-- ---- what remains after the last body

module _ (d : List ℕ) (from limit : ℕ) where
  pub rest_some : (body_from d from (entries d) ≡ limit → ⊥) → first_of (rest_cases d from limit) ≡ 17
  unfolding rest_cases
  rest_some h = one_applies _ 17 (rw (ne_eqb _ _ h))

  pub rest_none : body_from d from (entries d) ≡ limit → first_of (rest_cases d from limit) ≡ 0
  unfolding rest_cases
  rest_none e = one_passes _ 17 (rw (eq-eqb _ _ e))

  pub rest_clear : first_of (rest_cases d from limit) ≡ 0 → body_from d from (entries d) ≡ limit
  unfolding rest_cases positive
  rest_clear e = eqb-true _ _ (not-false _ (clear (rest_cases d from limit) refl e 0))

  rest_positive : positive (rest_cases d from limit) ≡ true
  unfolding rest_cases positive
  rest_positive = refl

  rest_lacks : (m : ℕ) → (not (eqb 17 m) && true) ≡ true → lacks m (rest_cases d from limit) ≡ true
  unfolding rest_cases lacks
  rest_lacks m e = e

-- ---- all of them, by any order

module _ (order : List ℕ → ℕ) (d : List ℕ) (from limit : ℕ) where
  pub entry_positive : (i : ℕ) → positive (entry_cases_by order d from limit i) ≡ true
  unfolding entry_cases_by positive
  entry_positive i = refl

  entry_lacks : (m : ℕ) → not_of_entry m ≡ true → (i : ℕ) → lacks m (entry_cases_by order d from limit i) ≡ true
  unfolding entry_cases_by lacks
  entry_lacks m e i = e

  pub entries_positive : positive (item_by_item (entry_cases_by order d from limit) (entries d)) ≡ true
  entries_positive = items_positive (entry_cases_by order d from limit) (entries d) entry_positive

  pub directory_positive : positive (directory_cases_by order d from limit) ≡ true
  unfolding directory_cases_by
  directory_positive =
      positive_append (item_by_item (entry_cases_by order d from limit) (entries d)) _ entries_positive (rest_positive d from limit)

  pub directory_lacks : (m : ℕ) → not_of_directory m ≡ true → lacks m (directory_cases_by order d from limit) ≡ true
  unfolding directory_cases_by
  directory_lacks m e =
      let h = both_true (not_of_entry m) (not (eqb 17 m) && true) e in
      lacks_append m (item_by_item (entry_cases_by order d from limit) (entries d)) _
      (items_lacks m (entry_cases_by order d from limit) (entries d) (entry_lacks m h.0))
      (rest_lacks d from limit m h.1)

  -- ---- entry by entry, and then what remains

  -- no entry before i has a case
  abbrev pub Passed : ℕ → Type 0
  Passed i = (k : ℕ) → k < i → first_of (entry_cases_by order d from limit k) ≡ 0

  pub entry_refused : (i : ℕ) (e : Refusal) → Passed i → i < entries d → number e ≡ first_of (entry_cases_by order d from limit i)
      → number e ≡ first_of (directory_cases_by order d from limit)
  unfolding directory_cases_by
  entry_refused i e h l q =
      let here = items_stop (entry_cases_by order d from limit) (entries d) i entry_positive l h (λ z. number_some e (q ∙ z)) in
      q ∙ sym here ∙ sym (first_stop _ _ (λ z. number_some e (q ∙ sym here ∙ z)))

  pub rest_left : Passed (entries d) → first_of (rest_cases d from limit) ≡ first_of (directory_cases_by order d from limit)
  unfolding directory_cases_by
  rest_left h = sym (first_pass _ _ entries_positive (items_pass (entry_cases_by order d from limit) (entries d) entry_positive h))
