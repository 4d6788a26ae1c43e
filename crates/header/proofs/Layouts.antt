-- Laws of the layouts: how many bytes the tag has, and which layout is read under which tag key.
-- Assumes nothing.
use mathlib.Core.Path.{◌≡◌, refl}
use mathlib.Core.Bool.{Bool, true, false, cond}
use mathlib.Core.List.{List}
use Prim.Native.Nat.{ℕ}
use borrow.Author.Tests.{eq-eqb, ne_eqb}
use lib.Dec.{eqb}
use lib.ListN.{length}
use Rattle.header.specs.Fields.{is_layout, layout_under, tag_size}

pub tag_16 : (layout : ℕ) → layout ≡ 2 → tag_size layout ≡ 16
unfolding tag_size
tag_16 layout e = rw (eq-eqb layout 2 e)

pub tag_none : (layout : ℕ) → (layout ≡ 2 → ⊥) → tag_size layout ≡ 0
unfolding tag_size
tag_none layout h = rw (ne_eqb layout 2 h)

pub layout_1 : (tag_key : List ℕ) → length tag_key ≡ 0 → layout_under tag_key ≡ 1
unfolding layout_under
layout_1 tag_key e = rw (eq-eqb (length tag_key) 0 e)

pub layout_2 : (tag_key : List ℕ) → (length tag_key ≡ 0 → ⊥) → layout_under tag_key ≡ 2
unfolding layout_under
layout_2 tag_key h = rw (ne_eqb (length tag_key) 0 h)

-- it is one of those that there are
pub layout_known : (tag_key : List ℕ) → is_layout (layout_under tag_key) ≡ true
unfolding is_layout layout_under
layout_known tag_key = by_test (eqb (length tag_key) 0)
  where
    by_test : (none : Bool) → is_layout (cond none 1 2) ≡ true
    by_test true = refl
    by_test false = refl
