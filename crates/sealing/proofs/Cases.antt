-- The cases of sealing: that none has the number 0, what a call without one is known to have, and that one which has it is without.
-- Assumes nothing.
use mathlib.Core.Path.{◌≡◌, refl, sym, ap, ◌∙◌}
use mathlib.Core.Bool.{true}
use mathlib.Core.List.{List, ◌++◌}
use Prim.Native.Nat.{ℕ, ◌<◌, ◌≤◌}
use native.Mathlib.Omega.{arith}
use borrow.Author.Tests.{ltb-false, lt-ltb, le-ltb}
use lib.ListN.{length, drop}
use Rattle.refusals.specs.Cases.{first_of, positive}
use Rattle.refusals.specs.Answers.{Answer, refused, gives, written_for}
use Rattle.refusals.specs.Shared.{tag_key_cases}
use Rattle.refusals.proofs.Answers.{answer_gives}
use Rattle.refusals.proofs.Cases.{clear, first_pass, first_none, one_applies, one_passes, positive_append}
use Rattle.refusals.proofs.Shared.{tag_key_positive}
use Rattle.header.specs.Fields.{layout_under}
use Rattle.sheet.specs.Sheet.{key_size_on, lines, sizes_on}
use Rattle.sheet.specs.Cases.{sheet_cases, lines_cases}
use Rattle.sheet.proofs.Cases.{SheetGood, sheet_positive, sheet_good, sheet_none, LinesGood, lines_positive, lines_good, lines_none}
use Rattle.sealing.specs.Seal.{length_on, key_file_cases, length_cases, rest_cases, seal_cases, seal_of}

-- ---- the lengths

pub record LengthGood (whole size given room : ℕ) : Type 0 where
  pub most : whole ≤ 65536
  pub exact : size ≡ given
  pub roomy : whole ≤ room

module _ (whole size given room : ℕ) where
  pub length_positive : positive (length_cases whole size given room) ≡ true
  unfolding length_cases positive
  length_positive = refl

  pub length_good : first_of (length_cases whole size given room) ≡ 0 → LengthGood whole size given room
  unfolding length_cases
  length_good e =
      let c = clear (length_cases whole size given room) length_positive e in
      let x : size ≤ given = ltb-false _ _ (c 1) in
      let y : given ≤ size = ltb-false _ _ (c 2) in
      record { most = ltb-false _ _ (c 0); exact = omega arith; roomy = ltb-false _ _ (c 3) }

  pub length_none : LengthGood whole size given room → first_of (length_cases whole size given room) ≡ 0
  unfolding length_cases first_of
  length_none g =
      let x = g.exact in
      rw (
        le-ltb _ _ g.most,
        le-ltb given size (omega arith),
        le-ltb size given (omega arith),
        le-ltb _ _ g.roomy,
      ) refl

-- ---- after the keys

pub record RestGood (layout : ℕ) (sheet : List ℕ) (given room : ℕ) : Type 0 where
  pub lined : LinesGood sheet
  pub fits : LengthGood (length_on layout sheet) (sizes_on sheet (lines sheet)) given room

module _ (layout : ℕ) (sheet : List ℕ) (given room : ℕ) where
  pub rest_positive : positive (rest_cases layout sheet given room) ≡ true
  unfolding rest_cases
  rest_positive = positive_append (lines_cases sheet) _ (lines_positive sheet) (length_positive _ _ given room)

  pub rest_good : first_of (rest_cases layout sheet given room) ≡ 0 → RestGood layout sheet given room
  unfolding rest_cases
  rest_good e =
      let s = first_none (lines_cases sheet) _ (lines_positive sheet) e in
      record { lined = lines_good sheet s.0; fits = length_good _ _ given room s.1 }

  pub rest_none : RestGood layout sheet given room → first_of (rest_cases layout sheet given room) ≡ 0
  unfolding rest_cases
  rest_none g = first_pass (lines_cases sheet) _ (lines_positive sheet) (lines_none sheet g.lined) ∙ length_none _ _ given room g.fits

-- ---- the key file

pub key_file_positive : (have size : ℕ) → positive (key_file_cases have size) ≡ true
unfolding key_file_cases positive
key_file_positive have size = refl

pub key_file_good : (have size : ℕ) → first_of (key_file_cases have size) ≡ 0 → size ≤ have
unfolding key_file_cases
key_file_good have size e = ltb-false _ _ (clear (key_file_cases have size) (key_file_positive have size) e 0)

pub key_file_1 : (have size : ℕ) → have < size → first_of (key_file_cases have size) ≡ 1
unfolding key_file_cases
key_file_1 have size l = one_applies _ 1 (lt-ltb have size l)

pub key_file_none : (have size : ℕ) → size ≤ have → first_of (key_file_cases have size) ≡ 0
unfolding key_file_cases
key_file_none have size l = one_passes _ 1 (le-ltb have size l)

-- ---- all of them

pub record SealGood (key_file tag_key sheet : List ℕ) (given room : ℕ) : Type 0 where
  pub sheeted : SheetGood sheet
  pub keyed : key_size_on sheet ≤ length key_file
  pub tagged : first_of (tag_key_cases (length tag_key)) ≡ 0
  pub rest : RestGood (layout_under tag_key) sheet given room

module _ (key_file tag_key sheet : List ℕ) (given room : ℕ) where
  pub seal_good : first_of (seal_cases key_file tag_key sheet given room) ≡ 0 → SealGood key_file tag_key sheet given room
  unfolding seal_cases
  seal_good e =
      let s = first_none (sheet_cases sheet) _ (sheet_positive sheet) e in
      let k = first_none (key_file_cases (length key_file) (key_size_on sheet)) _ (key_file_positive _ _) s.1 in
      let t = first_none (tag_key_cases (length tag_key)) _ (tag_key_positive (length tag_key)) k.1 in
      record {
        sheeted = sheet_good sheet s.0;
        keyed = key_file_good _ _ k.0;
        tagged = t.0;
        rest = rest_good (layout_under tag_key) sheet given room t.1;
      }

  pub seal_none : SealGood key_file tag_key sheet given room → first_of (seal_cases key_file tag_key sheet given room) ≡ 0
  unfolding seal_cases
  seal_none g =
      first_pass (sheet_cases sheet) _ (sheet_positive sheet) (sheet_none sheet g.sheeted)
      ∙ first_pass (key_file_cases (length key_file) (key_size_on sheet)) _ (key_file_positive _ _) (key_file_none _ _ g.keyed)
      ∙ first_pass (tag_key_cases (length tag_key)) _ (tag_key_positive (length tag_key)) g.tagged
      ∙ rest_none (layout_under tag_key) sheet given room g.rest

-- ---- what was answered

-- bytes matter where they are given
pub written_same : (a : Answer) (x y before : List ℕ) → ((n : ℕ) → a ≡ gives n → x ≡ y) → written_for a x before ≡ written_for a y before
unfolding written_for
written_same (refused n) x y before h = refl
written_same (gives n) x y before h = ap (λ (l : List ℕ). l ++ drop n before) (h n refl)

-- a call that gives bytes has no case
pub given_good : (key_file tag_key sheet : List ℕ) (given room n : ℕ) (a : Answer) → a ≡ seal_of key_file tag_key sheet given room
    → a ≡ gives n
    → SealGood key_file tag_key sheet given room
given_good key_file tag_key sheet given room n a e g =
    seal_good key_file tag_key sheet given room (answer_gives _ _ n (sym e ∙ g)).0
