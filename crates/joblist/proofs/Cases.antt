-- The cases of a list of job numbers: their numbers, where they stop, and what it tells that there is none.
-- Assumes nothing.
use mathlib.Core.Path.{◌≡◌, refl, sym, ◌∙◌}
use mathlib.Core.Bool.{Bool, true, not, ◌&&◌}
use mathlib.Core.List.{List, [], ◌∷◌}
use Prim.Native.Nat.{ℕ, ◌%◌, ◌<◌}
use borrow.Author.Tests.{eqb-true, eq-eqb, ne_eqb, not-false}
use lib.Dec.{eqb}
use lib.ListN.{length}
use Rattle.refusals.specs.Cases.{Case, when, first_of, item_by_item, positive, lacks}
use Rattle.refusals.proofs.Booleans.{both_true}
use Rattle.refusals.proofs.Cases.{clear, first_none, items_positive, items_lacks, items_stop, items_pass, items_none}
use Rattle.directory.specs.Search.{search_cases}
use Rattle.bodies.specs.Bodies.{number_cases}
use Rattle.bodies.proofs.Numbers.{number_positive}
use Rattle.joblist.specs.List.{numbers, listed, list_cases}

-- m is the number of no case of a list: computed where m is a numeral
abbrev pub not_of_list : ℕ → Bool
not_of_list m = not (eqb 27 m) && (not (eqb 18 m) && (not (eqb 19 m) && true))

module _ (file list : List ℕ) where
  abbrev numbered : ℕ → List Case
  numbered k = number_cases file (listed list k)

  numbered_positive : (k : ℕ) → positive (numbered k) ≡ true
  numbered_positive k = number_positive file (listed list k)

  pub list_positive : positive (list_cases file list) ≡ true
  unfolding list_cases positive
  list_positive = items_positive numbered (numbers list) numbered_positive

  pub list_lacks : (m : ℕ) → not_of_list m ≡ true → lacks m (list_cases file list) ≡ true
  unfolding list_cases number_cases search_cases lacks
  list_lacks m e =
      let r = both_true (not (eqb 27 m)) _ e in
      let s = both_true (not (eqb 18 m)) _ r.1 in
      let t = both_true (not (eqb 19 m)) _ s.1 in
      simp (r.0, s.0, t.0) (items_lacks m _ (numbers list) (λ k. r.1))

  -- the list is not a multiple of 8 bytes
  pub list_27 : (length list % 8 ≡ 0 → ⊥) → 27 ≡ first_of (list_cases file list)
  unfolding list_cases first_of
  list_27 h = rw (ne_eqb (length list % 8) 0 h)

  module _ (whole : length list % 8 ≡ 0) where
    -- it is: the numbers answer
    items : first_of (list_cases file list) ≡ first_of (item_by_item numbered (numbers list))
    unfolding list_cases first_of
    items = rw (eq-eqb (length list % 8) 0 whole)

    -- the first number that has a case
    pub list_stop : (k : ℕ) → k < numbers list → ((i : ℕ) → i < k → first_of (numbered i) ≡ 0) → (first_of (numbered k) ≡ 0 → ⊥)
        → first_of (numbered k) ≡ first_of (list_cases file list)
    list_stop k l before h = sym (items ∙ items_stop numbered (numbers list) k numbered_positive l before h)

    pub list_none : ((k : ℕ) → k < numbers list → first_of (numbered k) ≡ 0) → first_of (list_cases file list) ≡ 0
    list_none h = items ∙ items_pass numbered (numbers list) numbered_positive h

  -- no case: a multiple of 8 bytes, and none of any number
  pub list_clear : first_of (list_cases file list) ≡ 0
      → (length list % 8 ≡ 0) × ((k : ℕ) → k < numbers list → first_of (number_cases file (listed list k)) ≡ 0)
  unfolding list_cases positive
  list_clear e =
      let c = first_none (when (not (eqb (length list % 8) 0)) 27 ∷ []) (item_by_item numbered (numbers list)) refl e in (
        eqb-true _ _ (not-false _ (clear (when (not (eqb (length list % 8) 0)) 27 ∷ []) refl c.0 0)),
        items_none numbered (numbers list) numbered_positive c.1,
      )
