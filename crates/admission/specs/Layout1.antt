-- Without a tag key an archive is judged as before layout 2 came (02, d: "Layout 1 is still read where no tag key is given"), but for 24
-- in place of 7 where the layout byte is 2. The theorem is `layout_1_unchanged` of proofs/Layout1.
-- Assumes nothing.
use Rattle.std.specs.Prelude.{◌≡◌, not, cond, ◌&&◌, List, [], ◌∷◌, ◌++◌, ℕ, ◌+◌, ◌*◌, ltb, eqb, length}
use Rattle.refusals.specs.Cases.{Case, when, first_of}
use Rattle.refusals.specs.Shared.{good_key}
use Rattle.octets.specs.Equality.{same_bytes}
use Rattle.expansion.specs.KeySchedule.{schedule_of}
use Rattle.header.specs.Fields.{layout_of, key_length_of, count_of, key_check_of, length_of, directory_of}
use Rattle.directory.specs.Check.{directory_cases}
use Rattle.admission.specs.Check.{key_check, check_cases}

-- 01's own list of checking an archive, 1 and 5 to 17, with the order of years (02, e) in 14
unfoldable pub layout1_cases : List ℕ → List ℕ → List Case
layout1_cases key file =
    when (not (good_key (length key))) 1
    ∷ when (ltb (length file) 20) 5
    ∷ when (ltb 65536 (length file)) 6
    ∷ when (not (eqb (layout_of file) 1)) 7
    ∷ when (not (eqb (key_length_of file) (length key))) 8
    ∷ when (ltb 64 (count_of file)) 9
    ∷ when (not (eqb (length_of file) (length file))) 10
    ∷ when (ltb (length file) (20 + 16 * count_of file)) 11
    ∷ when (not (same_bytes (key_check_of file) (key_check (schedule_of key)))) 12
    ∷ directory_cases (directory_of file) (20 + 16 * count_of file) (length file)

-- the number now: 24 for a 7 whose layout byte is 2
unfoldable pub renumbered : List ℕ → ℕ → ℕ
renumbered file n = cond (eqb n 7 && eqb (layout_of file) 2) 24 n

-- of every file, and of every call that goes on with cases of its own after the check
abbrev pub Layout1Unchanged : Type 0
Layout1Unchanged = (key file : List ℕ) (more : List Case)
    → first_of (check_cases key [] file ++ more) ≡ renumbered file (first_of (layout1_cases key file ++ more))
