-- The cases of a sheet: that none has the number 0, what a sheet without one is known to have, and that one which has it is without.
-- Assumes nothing.
use mathlib.Core.Path.{◌≡◌, refl, sym, ◌∙◌}
use mathlib.Core.Bool.{Bool, true, false, ◌||◌}
use mathlib.Core.List.{List, [], ◌∷◌}
use Prim.Native.Nat.{ℕ, ◌-◌, ◌%◌, ◌<◌, ◌≤◌}
use borrow.Author.Tests.{leb-true, le-leb, ltb-false, lt-ltb, le-ltb, eqb-true, eq-eqb, not-false}
use lib.Dec.{leb, ltb, eqb}
use lib.ListN.{length, get_or}
use Rattle.refusals.specs.Cases.{when, first_of, item_by_item, positive}
use Rattle.refusals.specs.Shared.{good_key}
use Rattle.refusals.proofs.Booleans.{both_true}
use Rattle.refusals.proofs.Cases.{clear, stop, first_pass, first_none, items_positive, items_pass, items_none, positive_append}
use Rattle.refusals.proofs.Cases.{items_stop}
use Rattle.refusals.proofs.Numbers.{number_some}
use Rattle.refusals.specs.Numbers.{number}
use Rattle.refusals.specs.declared.Refusal.{Refusal}
use Rattle.jobnumber.specs.Number.{digits, order_of}
use Rattle.jobnumber.specs.Ascending.{ascends_in}
use Rattle.sheet.specs.Sheet.{key_size_of, key_size_on, lines, line_at}
use Rattle.sheet.specs.Cases.{is_length, is_key_length, sheet_cases, line_cases, lines_cases}

-- ---- the length and the first byte

pub record SheetGood (sheet : List ℕ) : Type 0 where
  pub five : 5 ≤ length sheet
  pub twelves : (length sheet - 5) % 12 ≡ 0
  pub sized : is_key_length (get_or sheet 0 0) ≡ true

module _ (sheet : List ℕ) where
  pub sheet_positive : positive (sheet_cases sheet) ≡ true
  unfolding sheet_cases positive
  sheet_positive = refl

  pub sheet_good : first_of (sheet_cases sheet) ≡ 0 → SheetGood sheet
  unfolding sheet_cases is_length
  sheet_good e =
      let c = clear (sheet_cases sheet) sheet_positive e in
      let b = both_true (leb 5 (length sheet)) (eqb ((length sheet - 5) % 12) 0) (not-false _ (c 0)) in
      record { five = leb-true _ _ b.0; twelves = eqb-true _ _ b.1; sized = not-false _ (c 1) }

  pub sheet_none : SheetGood sheet → first_of (sheet_cases sheet) ≡ 0
  unfolding sheet_cases is_length first_of
  sheet_none g = rw (le-leb _ _ g.five, eq-eqb _ _ g.twelves, g.sized)

-- a first byte that may be there means a good key
pub key_size_good : (sheet : List ℕ) → is_key_length (get_or sheet 0 0) ≡ true → good_key (key_size_on sheet) ≡ true
unfolding is_key_length key_size_of good_key
key_size_good sheet e = go (eqb (get_or sheet 0 0) 0) refl
  where
    go : (b : Bool) → eqb (get_or sheet 0 0) 0 ≡ b → good_key (key_size_on sheet) ≡ true
    go true q = rw q
    go false q = rw q (rw q at e)

-- and a byte that means one may be there
pub key_length_good : (k : ℕ) → good_key (key_size_of k) ≡ true → is_key_length k ≡ true
unfolding is_key_length key_size_of
key_length_good k e = go (eqb k 0) refl
  where
    go : (b : Bool) → eqb k 0 ≡ b → (eqb k 0 || good_key k) ≡ true
    go true q = rw q
    go false q = rw q (rw q at e)

-- ---- the lines

pub record LinesGood (sheet : List ℕ) : Type 0 where
  pub few : lines sheet ≤ 64
  pub numeric : (i : ℕ) → i < lines sheet → digits (line_at sheet i) ≡ true
  pub above : (i : ℕ) → i < lines sheet → ascends_in order_of (line_at sheet) i ≡ true

module _ (sheet : List ℕ) where
  pub line_positive : (i : ℕ) → positive (line_cases sheet i) ≡ true
  unfolding line_cases positive
  line_positive i = refl

  count_positive : positive (when (ltb 64 (lines sheet)) 9 ∷ []) ≡ true
  unfolding positive
  count_positive = refl

  each_positive : positive (item_by_item (line_cases sheet) (lines sheet)) ≡ true
  each_positive = items_positive (line_cases sheet) (lines sheet) line_positive

  pub lines_positive : positive (lines_cases sheet) ≡ true
  unfolding lines_cases
  lines_positive = positive_append (when (ltb 64 (lines sheet)) 9 ∷ []) _ count_positive each_positive

  pub lines_good : first_of (lines_cases sheet) ≡ 0 → LinesGood sheet
  unfolding lines_cases line_cases
  lines_good e =
      let s = first_none (when (ltb 64 (lines sheet)) 9 ∷ []) (item_by_item (line_cases sheet) (lines sheet)) count_positive e in
      let none = items_none (line_cases sheet) (lines sheet) line_positive s.1 in
      record {
        few = ltb-false _ _ (clear (when (ltb 64 (lines sheet)) 9 ∷ []) count_positive s.0 0);
        numeric = λ i l. not-false _ (clear (line_cases sheet i) (line_positive i) (none i l) 0);
        above = λ i l. not-false _ (clear (line_cases sheet i) (line_positive i) (none i l) 1);
      }

  line_none : LinesGood sheet → (i : ℕ) → i < lines sheet → first_of (line_cases sheet i) ≡ 0
  unfolding line_cases first_of
  line_none g i l = rw (g.numeric i l, g.above i l)

  count_none : lines sheet ≤ 64 → first_of (when (ltb 64 (lines sheet)) 9 ∷ []) ≡ 0
  unfolding first_of
  count_none l = rw (le-ltb _ _ l)

  -- few enough: the lines are left
  pub lines_each : lines sheet ≤ 64 → first_of (lines_cases sheet) ≡ first_of (item_by_item (line_cases sheet) (lines sheet))
  unfolding lines_cases
  lines_each l = first_pass (when (ltb 64 (lines sheet)) 9 ∷ []) _ count_positive (count_none l)

  -- 65 lines or more: 9, whatever they say
  pub too_many : 64 < lines sheet → first_of (lines_cases sheet) ≡ 9
  unfolding lines_cases
  too_many l = stop (when (ltb 64 (lines sheet)) 9 ∷ item_by_item (line_cases sheet) (lines sheet)) 0 (lt-ltb _ _ l)

  -- no line before i has a case
  abbrev pub Passed : ℕ → Type 0
  Passed i = (k : ℕ) → k < i → first_of (line_cases sheet k) ≡ 0

  pub line_refused : (i : ℕ) (e : Refusal) → lines sheet ≤ 64 → Passed i → i < lines sheet → number e ≡ first_of (line_cases sheet i)
      → number e ≡ first_of (lines_cases sheet)
  line_refused i e few h l q =
      q ∙ sym (items_stop (line_cases sheet) (lines sheet) i line_positive l h (λ z. number_some e (q ∙ z))) ∙ sym (lines_each few)

  pub lines_passed : lines sheet ≤ 64 → Passed (lines sheet) → first_of (lines_cases sheet) ≡ 0
  lines_passed few h = lines_each few ∙ items_pass (line_cases sheet) (lines sheet) line_positive h

  pub lines_none : LinesGood sheet → first_of (lines_cases sheet) ≡ 0
  lines_none g = lines_passed g.few (line_none g)
