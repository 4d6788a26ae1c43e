-- Without a tag key an archive is judged as before: the cases are compared up to the layout, then, where it is 1, the rest of them.
-- Assumes nothing.
use mathlib.Core.Path.{◌≡◌, refl, sym, ap, ap₂, ◌∙◌}
use mathlib.Core.Bool.{Bool, true, false, not, cond, ◌&&◌, ◌||◌}
use mathlib.Core.List.{List, [], ◌++◌, append-nil}
use Prim.Native.Nat.{ℕ, zero, suc, ◌+◌, ◌-◌}
use native.Mathlib.Nat.{add-zero, sub-zero}
use native.Mathlib.Omega.{arith}
use borrow.Author.Tests.{eqb-true, ne_eqb, not-false}
use lib.Dec.{ltb, eqb}
use lib.ListN.{length}
use Rattle.refusals.specs.Cases.{Case, first_of, positive}
use Rattle.refusals.specs.Shared.{good_key, key_cases, tag_key_cases}
use Rattle.refusals.proofs.Cases.{first_stop, first_pass, first_alike, clear}
use Rattle.octets.specs.Equality.{same_bytes}
use Rattle.expansion.specs.KeySchedule.{schedule_of}
use Rattle.header.specs.Fields.{layout_of, is_layout, layout_under, tag_size, key_length_of}
use Rattle.header.specs.Fields.{count_of, key_check_of, length_of, directory_of}
use Rattle.header.specs.Fields.{directory_end, bodies_end}
use Rattle.header.specs.Cases.{front_cases, field_cases, header_cases}
use Rattle.header.proofs.Layouts.{tag_none}
use Rattle.jobnumber.specs.Number.{order_of}
use Rattle.directory.specs.Check.{directory_cases}
use Rattle.directory.proofs.Cases.{directory_positive}
use Rattle.admission.specs.Check.{key_check, wrong_tag_cases, file_cases_by, under_key_cases_by, check_cases, check_cases_by}
use Rattle.admission.specs.Layout1.{layout1_cases, renumbered, Layout1Unchanged}
use Rattle.admission.proofs.Checking.{check_positive}
use Rattle.admission.proofs.Tags.{no_tag}

-- where the layout is not 2, a number stays
stays : (l y : ℕ) → eqb l 2 ≡ false → cond (eqb y 7 && eqb l 2) 24 y ≡ y
stays l y e = rw e (go (eqb y 7))
  where
    go : (b : Bool) → cond (b && false) 24 y ≡ y
    go true = refl
    go false = refl

-- the cases up to the layout l, where the later ones come to x now and came to y before
judged : (k a b : Bool) (l x y : ℕ) → (l ≡ 1 → x ≡ y)
    → cond k 1 (cond a 5 (cond b 6 (cond (not (is_layout l)) 7 (cond (not (eqb l 1)) 24 x))))
    ≡ cond (eqb (cond k 1 (cond a 5 (cond b 6 (cond (not (eqb l 1)) 7 y)))) 7 && eqb l 2) 24
    (cond k 1 (cond a 5 (cond b 6 (cond (not (eqb l 1)) 7 y))))
unfolding is_layout
judged true a b l x y h = refl
judged false true b l x y h = refl
judged false false true l x y h = refl
judged false false false l x y h = go (eqb l 1) refl (eqb l 2) refl
  where
    go : (p : Bool) → eqb l 1 ≡ p → (q : Bool) → eqb l 2 ≡ q
        → cond (not (eqb l 1 || eqb l 2)) 7 (cond (not (eqb l 1)) 24 x)
        ≡ cond (eqb (cond (not (eqb l 1)) 7 y) 7 && eqb l 2) 24 (cond (not (eqb l 1)) 7 y)
    go true p true q = absurd (omega (arith, eqb-true l 1 p, eqb-true l 2 q))
    go true p false q = rw p (h (eqb-true l 1 p) ∙ sym (stays l y q))
    go false p true q = rw (p, q)
    go false p false q = rw (p, q)

module _ (key file : List ℕ) where
  -- the cases behind the layout's, with the least length that 11 asks for, and what the directory and the tag come to
  abbrev pub fields : ℕ → ℕ → ℕ
  fields least last =
      cond (not (eqb (key_length_of file) (length key))) 8
      (cond (ltb 64 (count_of file)) 9
      (cond (not (eqb (length_of file) (length file))) 10
      (cond (ltb (length file) least) 11
      (cond (not (same_bytes (key_check_of file) (key_check (schedule_of key)))) 12 last))))

  abbrev directory : ℕ → List Case
  directory limit = directory_cases (directory_of file) (directory_end file) limit

  untagged : layout_of file ≡ 1 → first_of (directory (bodies_end file) ++ wrong_tag_cases [] file) ≡ first_of (directory (length file))
  unfolding first_of
  untagged one =
      let other : layout_of file ≡ 2 → ⊥ = λ two. omega arith in
      let p : positive (directory (bodies_end file)) ≡ true = directory_positive order_of (directory_of file) _ (bodies_end file) in
      let size = tag_none (layout_of file) other in
      first_alike (directory (bodies_end file)) (directory (bodies_end file)) (wrong_tag_cases [] file) [] p p refl
      (λ z. no_tag [] file refl other)
      ∙ ap first_of (append-nil (directory (bodies_end file)))
      ∙ ap (λ (k : ℕ). first_of (directory (length file - k))) size
      ∙ ap (λ (k : ℕ). first_of (directory k)) (sub-zero (length file))

  same_fields : layout_of file ≡ 1
      → fields (directory_end file + tag_size (layout_of file)) (first_of (directory (bodies_end file) ++ wrong_tag_cases [] file))
      ≡ fields (directory_end file) (first_of (directory (length file)))
  same_fields one =
      let other : layout_of file ≡ 2 → ⊥ = λ two. omega arith in
      ap₂ fields (ap (λ (k : ℕ). directory_end file + k) (tag_none (layout_of file) other) ∙ add-zero (directory_end file)) (untagged one)

  checking : first_of (check_cases key [] file) ≡ renumbered file (first_of (layout1_cases key file))
  unfolding check_cases_by under_key_cases_by file_cases_by header_cases front_cases field_cases key_cases tag_key_cases good_key
      layout_under layout1_cases
      renumbered first_of
  checking =
      judged (not (good_key (length key))) (ltb (length file) 20) (ltb 65536 (length file)) (layout_of file) _ _ same_fields

  layout1_positive : positive (layout1_cases key file) ≡ true
  unfolding layout1_cases positive
  layout1_positive = directory_positive order_of (directory_of file) (directory_end file) (length file)

  -- an archive that passed had layout 1
  passed : first_of (layout1_cases key file) ≡ 0 → layout_of file ≡ 1
  unfolding layout1_cases
  passed e = eqb-true _ _ (not-false _ (clear (layout1_cases key file) layout1_positive e 3))

renumbered_some : (file : List ℕ) (n : ℕ) → renumbered file (suc n) ≡ 0 → ⊥
unfolding renumbered
renumbered_some file n e = go (eqb (suc n) 7 && eqb (layout_of file) 2) e
  where
    go : (b : Bool) → cond b 24 (suc n) ≡ 0 → ⊥
    go true e = omega arith
    go false e = omega arith

pub layout_1_unchanged : Layout1Unchanged
unfolding renumbered
layout_1_unchanged key file more = go (first_of (layout1_cases key file)) refl
  where
    go : (n : ℕ) → first_of (layout1_cases key file) ≡ n
        → first_of (check_cases key [] file ++ more) ≡ renumbered file (first_of (layout1_cases key file ++ more))
    go zero z =
        let other : eqb (layout_of file) 2 ≡ false = ne_eqb (layout_of file) 2 (λ two. omega (arith, passed key file z, two)) in
        first_pass (check_cases key [] file) more (check_positive order_of key [] file) (checking key file ∙ ap (renumbered file) z)
        ∙ sym (first_pass (layout1_cases key file) more (layout1_positive key file) z)
        ∙ sym (stays (layout_of file) _ other)
    go (suc n) z =
        let some : first_of (check_cases key [] file) ≡ 0 → ⊥ =
        λ q. renumbered_some file n (sym (checking key file ∙ ap (renumbered file) z) ∙ q)
        in
        first_stop (check_cases key [] file) more some
        ∙ checking key file
        ∙ ap (renumbered file) (sym (first_stop (layout1_cases key file) more (λ q. omega (arith, sym z ∙ q))))
