-- Under a tag key the cases are those of layout 2: they are compared up to the layout, then, where it is 2, the rest of them.
-- Assumes nothing.
use mathlib.Core.Path.{◌≡◌, refl, ap, ap₂}
use mathlib.Core.Bool.{Bool, true, false, not, cond, ◌||◌}
use mathlib.Core.List.{List, [], ◌∷◌, ◌++◌}
use Prim.Native.Nat.{ℕ, ◌+◌, ◌-◌, ◌*◌}
use native.Mathlib.Omega.{arith}
use borrow.Author.Tests.{eqb-true, ne_eqb}
use lib.Dec.{ltb, eqb}
use lib.ListN.{length, take, drop}
use Rattle.refusals.specs.Cases.{when, first_of}
use Rattle.refusals.specs.Shared.{good_key, key_cases, tag_key_cases}
use Rattle.octets.specs.Equality.{same_bytes}
use Rattle.expansion.specs.KeySchedule.{schedule_of}
use Rattle.cmac.specs.Tag.{tag_under}
use Rattle.header.specs.Fields.{layout_of, is_layout, layout_under, tag_size, count_of, directory_of}
use Rattle.header.specs.Fields.{directory_end, bodies_end, tag_of, tagged_of}
use Rattle.header.specs.Cases.{front_cases, field_cases, header_cases}
use Rattle.header.proofs.Layouts.{tag_16}
use Rattle.directory.specs.Check.{directory_cases}
use Rattle.admission.specs.Check.{tag_bytes, wrong_tag_cases, file_cases_by, under_key_cases_by, check_cases, check_cases_by}
use Rattle.admission.specs.Layout2.{tag_start, layout2_cases, Layout2WrittenOut}
use Rattle.admission.proofs.Layout1.{fields}

-- the cases up to the layout, which a later case sees only where it is 2
judged : (k t a b q : Bool) (l x y : ℕ) → (l ≡ 2 → x ≡ y)
    → cond k 1 (cond t 1 (cond a 5 (cond b 6 (cond q 7 (cond (not (eqb l 2)) 24 x)))))
    ≡ cond k 1 (cond t 1 (cond a 5 (cond b 6 (cond q 7 (cond (not (eqb l 2)) 24 y)))))
judged k t a b q l x y h =
    ap (λ (n : ℕ). cond k 1 (cond t 1 (cond a 5 (cond b 6 (cond q 7 n))))) (go (eqb l 2) refl)
  where
    go : (p : Bool) → eqb l 2 ≡ p → cond (not (eqb l 2)) 24 x ≡ cond (not (eqb l 2)) 24 y
    go true p = rw p (h (eqb-true l 2 p))
    go false p = rw p

module _ (key tag_key file : List ℕ) where
  -- directory and tag, the bodies ending at n
  abbrev behind : ℕ → ℕ
  behind n =
      first_of (directory_cases (directory_of file) (directory_end file) n
      ++ (when (not (same_bytes (tag_under (schedule_of tag_key) (take n file)) (drop n file))) 25 ∷ []))

  same_fields : layout_of file ≡ 2
      → fields key file (directory_end file + tag_size (layout_of file)) (behind (bodies_end file))
      ≡ fields key file (36 + 16 * count_of file) (behind (tag_start file))
  same_fields two =
      let size = tag_16 (layout_of file) two in
      let least : directory_end file + tag_size (layout_of file) ≡ 36 + 16 * count_of file = omega arith in
      ap₂ (fields key file) least (ap (λ (k : ℕ). behind (length file - k)) size)

  written_out : (length tag_key ≡ 0 → ⊥) → first_of (check_cases key tag_key file) ≡ first_of (layout2_cases key tag_key file)
  unfolding check_cases_by under_key_cases_by file_cases_by header_cases front_cases field_cases wrong_tag_cases tag_bytes tag_of tagged_of
      key_cases tag_key_cases is_layout layout_under layout2_cases first_of
  written_out some =
      rw (ne_eqb (length tag_key) 0 some) (judged (not (good_key (length key))) (not (good_key (length tag_key))) (ltb (length file) 20)
      (ltb 65536 (length file)) (not (eqb (layout_of file) 1 || eqb (layout_of file) 2)) (layout_of file) _ _ same_fields)

pub layout_2_written_out : Layout2WrittenOut
layout_2_written_out = written_out
