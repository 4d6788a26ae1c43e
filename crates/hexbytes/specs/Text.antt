-- Bytes as hexadecimal text: two digits for each byte, its high half first.
-- Assumes nothing.
use Rattle.std.specs.Prelude.{List, [], ◌∷◌, ℕ, ◌/◌, ◌%◌, flat_map}
use Rattle.std.specs.Char.{digit_char}

-- the two digits of a byte, 0 to 9 and a to f
unfoldable pub digits : ℕ → List ℕ
digits b = digit_char (b / 16) ∷ digit_char (b % 16) ∷ []

abbrev pub hex_text : List ℕ → List ℕ
hex_text bytes = flat_map digits bytes
