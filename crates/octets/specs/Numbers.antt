-- Numbers of several bytes, the most significant byte first (01, head): read at a place of a list, and written out. A byte past the end of
-- the list reads as 0, so that each definition is total; of a number that is too large, its remainder is written.
-- Assumes nothing.
use Rattle.std.specs.Prelude.{List, [], ◌∷◌, ℕ, ◌+◌, ◌*◌, ◌/◌, ◌%◌, ◌<◌, get_or}

-- every element is a byte
abbrev pub Octets : List ℕ → Type 0
Octets xs = (j : ℕ) → get_or xs j 0 < 256

-- the number of two bytes at a place, and of four
abbrev pub be16 : List ℕ → ℕ → ℕ
be16 s at = get_or s at 0 * 256 + get_or s (at + 1) 0

abbrev pub be32 : List ℕ → ℕ → ℕ
be32 s at = ((get_or s at 0 * 256 + get_or s (at + 1) 0) * 256 + get_or s (at + 2) 0) * 256 + get_or s (at + 3) 0

-- a number in two bytes, and in four
abbrev pub bytes16 : ℕ → List ℕ
bytes16 n = n / 256 % 256 ∷ n % 256 ∷ []

abbrev pub bytes32 : ℕ → List ℕ
bytes32 n = n / 16777216 % 256 ∷ n / 65536 % 256 ∷ n / 256 % 256 ∷ n % 256 ∷ []
