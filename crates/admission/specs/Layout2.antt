-- The cases of checking under a tag key, 02's list for layout 2 written out: as `check_cases` says them over the layout, where this one is
-- the value 2. The theorem is `layout_2_written_out` of proofs/Layout2; layout 1 is specs/Layout1.
-- Assumes nothing.
use Rattle.std.specs.Prelude.{◌≡◌, not, ◌||◌, List, [], ◌∷◌, ◌++◌, ℕ, ◌+◌, ◌-◌, ◌*◌, ltb, eqb, length, take, drop}
use Rattle.refusals.specs.Cases.{Case, when, first_of}
use Rattle.refusals.specs.Shared.{good_key}
use Rattle.octets.specs.Equality.{same_bytes}
use Rattle.expansion.specs.KeySchedule.{schedule_of}
use Rattle.cmac.specs.Tag.{tag_under}
use Rattle.header.specs.Fields.{layout_of, key_length_of, count_of, key_check_of, length_of, directory_of}
use Rattle.directory.specs.Check.{directory_cases}
use Rattle.admission.specs.Check.{key_check, check_cases}

-- where the tag begins
abbrev pub tag_start : List ℕ → ℕ
tag_start file = length file - 16

unfoldable pub layout2_cases : List ℕ → List ℕ → List ℕ → List Case
layout2_cases key tag_key file =
    when (not (good_key (length key))) 1
    ∷ when (not (good_key (length tag_key))) 1
    ∷ when (ltb (length file) 20) 5
    ∷ when (ltb 65536 (length file)) 6
    ∷ when (not (eqb (layout_of file) 1 || eqb (layout_of file) 2)) 7
    ∷ when (not (eqb (layout_of file) 2)) 24
    ∷ when (not (eqb (key_length_of file) (length key))) 8
    ∷ when (ltb 64 (count_of file)) 9
    ∷ when (not (eqb (length_of file) (length file))) 10
    ∷ when (ltb (length file) (36 + 16 * count_of file)) 11
    ∷ when (not (same_bytes (key_check_of file) (key_check (schedule_of key)))) 12
    ∷ directory_cases (directory_of file) (20 + 16 * count_of file) (tag_start file)
    ++ (when (not (same_bytes (tag_under (schedule_of tag_key) (take (tag_start file) file)) (drop (tag_start file) file))) 25 ∷ [])

-- of every file and every tag key that has bytes, a bad one too
abbrev pub Layout2WrittenOut : Type 0
Layout2WrittenOut = (key tag_key file : List ℕ) → (length tag_key ≡ 0 → ⊥)
    → first_of (check_cases key tag_key file) ≡ first_of (layout2_cases key tag_key file)
