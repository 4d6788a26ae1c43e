-- Numbers in decimal: ASCII digits, the most significant first. The value of digits, and the digits that a number is written in.
-- Assumes nothing.
use Rattle.std.specs.Prelude.{Bool, cond, ◌&&◌, List, [], ◌∷◌, ◌++◌, ℕ, zero, suc, ◌+◌, ◌-◌, ◌*◌, ◌/◌, ◌%◌, leb, ltb, get_or}
use Rattle.octets.specs.Below.{all_below}

-- an ASCII digit
abbrev pub is_digit : ℕ → Bool
is_digit b = leb 48 b && leb b 57

-- the first n bytes are digits; a byte that is missing is none
abbrev pub all_digits : List ℕ → ℕ → Bool
all_digits s n = all_below (λ (k : ℕ). is_digit (get_or s k 0)) n

-- the value of the digit at place k. Of a byte that is no digit it is how far the byte is above the digit 0; below that, and where there is
-- no byte, 0
abbrev pub digit_value : List ℕ → ℕ → ℕ
digit_value s k = get_or s k 0 - 48

-- the number that the first k digits are
abbrev pub decimal_value : List ℕ → ℕ → ℕ
decimal_value s zero = 0
decimal_value s (suc k) = decimal_value s k * 10 + digit_value s k

-- the digits of n, by so many steps; more than n steps are always enough
unfoldable pub digits_in : ℕ → ℕ → List ℕ
digits_in zero n = []
digits_in (suc steps) n = cond (ltb n 10) ((48 + n) ∷ []) (digits_in steps (n / 10) ++ ((48 + n % 10) ∷ []))

-- a number in decimal, as `jobs` prints it (01, The program jobs): no zero in front of others
unfoldable pub decimal_digits : ℕ → List ℕ
decimal_digits n = digits_in (suc n) n
