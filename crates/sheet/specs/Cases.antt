-- The cases of a sheet alone (02, a): "21, the sheet is not 5 bytes plus a multiple of 12; 22, its first byte is none of 0, 16, 24, 32";
-- later "9, then 13 and 14 per job", which are 01's, 14 by the order of years (02, e).
-- Assumes nothing.
use Rattle.std.specs.Prelude.{Bool, not, ◌&&◌, ◌||◌, List, [], ◌∷◌, ℕ, ◌-◌, ◌%◌, leb, ltb, eqb, length, get_or}
use Rattle.refusals.specs.Cases.{Case, when, item_by_item}
use Rattle.refusals.specs.Shared.{good_key}
use Rattle.jobnumber.specs.Number.{digits, order_of}
use Rattle.jobnumber.specs.Ascending.{ascends_in}
use Rattle.sheet.specs.Sheet.{lines, line_at}

-- how long it may be, and what its first byte may be
unfoldable pub is_length : ℕ → Bool
is_length n = leb 5 n && eqb ((n - 5) % 12) 0

unfoldable pub is_key_length : ℕ → Bool
is_key_length n = eqb n 0 || good_key n

-- its length, and its first byte
unfoldable pub sheet_cases : List ℕ → List Case
sheet_cases sheet =
    when (not (is_length (length sheet))) 21
    ∷ when (not (is_key_length (get_or sheet 0 0))) 22
    ∷ []

-- line i
unfoldable pub line_cases : List ℕ → ℕ → List Case
line_cases sheet i = when (not (digits (line_at sheet i))) 13 ∷ when (not (ascends_in order_of (line_at sheet) i)) 14 ∷ []

-- the number of lines, and then line by line
unfoldable pub lines_cases : List ℕ → List Case
lines_cases sheet = when (ltb 64 (lines sheet)) 9 ∷ item_by_item (line_cases sheet) (lines sheet)
