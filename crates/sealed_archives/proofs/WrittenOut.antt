-- The cases of sealing are those of the list written out: the definitions unfolded, at either outcome of whether there is a tag key.
-- Assumes nothing.
use mathlib.Core.Path.{◌≡◌, refl, ap}
use mathlib.Core.Bool.{Bool, true, false, cond}
use mathlib.Core.List.{List}
use Prim.Native.Nat.{ℕ, ◌+◌, ◌*◌}
use lib.Dec.{eqb}
use lib.ListN.{length}
use Rattle.refusals.specs.Shared.{good_key, tag_key_cases}
use Rattle.header.specs.Fields.{layout_under, tag_size}
use Rattle.jobnumber.specs.Ascending.{ascends_in}
use Rattle.sheet.specs.Sheet.{key_size_of, lines}
use Rattle.sheet.specs.Cases.{is_length, is_key_length, sheet_cases, line_cases, lines_cases}
use Rattle.sealing.specs.Seal.{length_on, key_file_cases, length_cases, rest_cases, seal_cases}
use Rattle.sealed_archives.specs.WrittenOut.{asked, archive_length, written_out_cases, SealWrittenOut}

tag_length : (tag_key : List ℕ) → tag_size (layout_under tag_key) ≡ cond (eqb (length tag_key) 0) 0 16
unfolding tag_size layout_under
tag_length tag_key = go (eqb (length tag_key) 0)
  where
    go : (b : Bool) → ◌≡◌ {A = ℕ} (cond (eqb (cond b 1 2) 2) 16 0) (cond b 0 16)
    go true = refl
    go false = refl

whole : (tag_key sheet : List ℕ) → length_on (layout_under tag_key) sheet ≡ archive_length tag_key sheet
unfolding length_on
whole tag_key sheet = ap (λ (n : ℕ). 20 + 16 * lines sheet + asked sheet + n) (tag_length tag_key)

pub seal_written_out : SealWrittenOut
unfolding seal_cases sheet_cases is_length is_key_length good_key key_size_of key_file_cases tag_key_cases rest_cases lines_cases line_cases
    ascends_in
    length_cases written_out_cases
seal_written_out key_file tag_key sheet given room = rw (whole tag_key sheet) refl
