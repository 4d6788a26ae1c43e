-- The cases of a header (01, Reasons for sending work back, 5 to 12, and 02, d), in the papers' order, for a file that has to be of a
-- layout, under a key of `keysize` bytes whose key check is `check`. 02, d: "24, a tag key is given and the layout is 1, or none is given
-- and it is 2, after 7 (which now passes 1 and 2 ..)": the layout that the file has to be of is `layout_under` of the tag key. "The whole
-- length includes the tag, so 11 becomes 36 + 16 × count for this layout".
-- Assumes nothing.
use Rattle.std.specs.Prelude.{not, List, [], ◌∷◌, ◌++◌, ℕ, ◌+◌, ltb, eqb, length}
use Rattle.refusals.specs.Cases.{Case, when}
use Rattle.octets.specs.Equality.{same_bytes}
use Rattle.header.specs.Fields.{layout_of, is_layout, tag_size, key_length_of, count_of, key_check_of, length_of, directory_end}

-- the file's length and the layout
unfoldable pub front_cases : ℕ → List ℕ → List Case
front_cases layout file =
    when (ltb (length file) 20) 5
    ∷ when (ltb 65536 (length file)) 6
    ∷ when (not (is_layout (layout_of file))) 7
    ∷ when (not (eqb (layout_of file) layout)) 24
    ∷ []

-- the other fields
unfoldable pub field_cases : ℕ → List ℕ → List ℕ → List Case
field_cases keysize check file =
    when (not (eqb (key_length_of file) keysize)) 8
    ∷ when (ltb 64 (count_of file)) 9
    ∷ when (not (eqb (length_of file) (length file))) 10
    ∷ when (ltb (length file) (directory_end file + tag_size (layout_of file))) 11
    ∷ when (not (same_bytes (key_check_of file) check)) 12
    ∷ []

-- the cases of the header
unfoldable pub header_cases : ℕ → ℕ → List ℕ → List ℕ → List Case
header_cases layout keysize check file = front_cases layout file ++ field_cases keysize check file
