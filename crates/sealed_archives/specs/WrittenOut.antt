-- The cases of sealing written out in one list, as 02 has them: "order 21, 22, 1 if the key file is too short for that length, 9, then 13
-- and 14 per job, 6 if the archive would pass 65,536 bytes, 16 if the bodies run out, 17 if plain bytes remain, 20 if the buffer is too
-- short" (a), and 1 for a bad tag key straight after that of the key file (d). The theorem is `seal_written_out` of proofs/WrittenOut.
-- Assumes nothing.
use Rattle.std.specs.Prelude.{◌≡◌, not, cond, ◌&&◌, ◌||◌, List, [], ◌∷◌, ◌++◌, ℕ, ◌+◌, ◌-◌, ◌*◌, ◌%◌, leb, ltb, eqb, length, get_or}
use Rattle.refusals.specs.Cases.{Case, when, item_by_item}
use Rattle.jobnumber.specs.Number.{digits, order_of}
use Rattle.sheet.specs.Sheet.{lines, line_at, sizes_on}
use Rattle.sealing.specs.Seal.{seal_cases}

-- the key's length by the sheet's first byte, 32 for 0 (j); the plain bytes that the sheet asks for; and the length of the archive
abbrev pub key_length : List ℕ → ℕ
key_length sheet = cond (eqb (get_or sheet 0 0) 0) 32 (get_or sheet 0 0)

abbrev pub asked : List ℕ → ℕ
asked sheet = sizes_on sheet (lines sheet)

abbrev pub archive_length : List ℕ → List ℕ → ℕ
archive_length tag_key sheet = 20 + 16 * lines sheet + asked sheet + cond (eqb (length tag_key) 0) 0 16

unfoldable pub written_out_cases : List ℕ → List ℕ → List ℕ → ℕ → ℕ → List Case
written_out_cases key_file tag_key sheet given room =
    when (not (leb 5 (length sheet) && eqb ((length sheet - 5) % 12) 0)) 21
    ∷ when (not (eqb (get_or sheet 0 0) 0 || (eqb (get_or sheet 0 0) 16 || (eqb (get_or sheet 0 0) 24 || eqb (get_or sheet 0 0) 32)))) 22
    ∷ when (ltb (length key_file) (key_length sheet)) 1
    ∷ when (not (eqb (length tag_key) 0 || (eqb (length tag_key) 16 || (eqb (length tag_key) 24 || eqb (length tag_key) 32)))) 1
    ∷ when (ltb 64 (lines sheet)) 9
    ∷ item_by_item (λ (i : ℕ).
    when (not (digits (line_at sheet i))) 13
    ∷ when (not (eqb i 0 || ltb (order_of (line_at sheet (i - 1))) (order_of (line_at sheet i)))) 14
    ∷ []) (lines sheet)
    ++ (when (ltb 65536 (archive_length tag_key sheet)) 6
    ∷ when (ltb given (asked sheet)) 16
    ∷ when (ltb (asked sheet) given) 17
    ∷ when (ltb room (archive_length tag_key sheet)) 20
    ∷ [])

abbrev pub SealWrittenOut : Type 0
SealWrittenOut = (key_file tag_key sheet : List ℕ) (given room : ℕ)
    → seal_cases key_file tag_key sheet given room ≡ written_out_cases key_file tag_key sheet given room
