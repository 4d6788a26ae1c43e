-- A number as a user types it: a word of 1 to 20 digits, at most 2^64 - 1. Zeros in front count as digits. The papers have no such
-- word; it is the program `open` that takes two of them.
-- Assumes nothing.
use Rattle.std.specs.Prelude.{◌≡◌, Bool, cond, ◌&&◌, List, ℕ, leb, ltb, length, Option, Some, None}
use Rattle.decimal.specs.Decimal.{all_digits, decimal_value}

-- the number that all bytes of a word are, as digits
abbrev pub value_of : List ℕ → ℕ
value_of word = decimal_value word (length word)

-- a number of 64 bits
abbrev pub fits64 : ℕ → Bool
fits64 n = ltb n 18446744073709551616

-- a word that is a number
unfoldable pub is_decimal : List ℕ → Bool
is_decimal word = (leb 1 (length word) && leb (length word) 20) && (all_digits word (length word) && fits64 (value_of word))

-- the number that a test allows, or none
abbrev pub number_if : Bool → ℕ → Option ℕ
number_if b n = cond b (Some n) None

-- the contract of reading bytes that are taken as digits, whatever they are and however many
abbrev pub ReadsDigits : List ℕ → Option ℕ → Type 0
ReadsDigits word r = r ≡ number_if (fits64 (value_of word)) (value_of word)

-- the contract of reading a word: whether it is a number, and which
abbrev pub Reads : List ℕ → Option ℕ → Type 0
Reads word r = r ≡ number_if (is_decimal word) (value_of word)
