-- A list of job numbers (02, g: "Given an archive and a list of job numbers"), eight bytes a number, and its cases on a file: "27, the list
-- is not a multiple of 8 bytes, ..; then 18 and 19 per listed number in list order". Both are those of finding, number by number: a missing
-- number before one that is no job number gives 19, and the other way round 18.
-- Every definition is over any bytes: bytes after the last whole number belong to none.
-- Assumes nothing.
use Rattle.std.specs.Prelude.{◌≡◌, Bool, not, List, ◌∷◌, ℕ, ◌*◌, ◌/◌, ◌%◌, eqb, length, take, drop}
use Rattle.refusals.specs.Cases.{Case, when, item_by_item}
use Rattle.octets.specs.Equality.{same_bytes}
use Rattle.octets.specs.Below.{all_below}
use Rattle.blocks.specs.Blocks.{row}
use Rattle.bodies.specs.Bodies.{number_cases}

-- how many whole numbers there are
abbrev pub numbers : List ℕ → ℕ
numbers list = length list / 8

-- number k, counted from 0
unfoldable pub listed : List ℕ → ℕ → List ℕ
listed list k = take 8 (drop (8 * k) list)

-- whether a number is in the list; how often does not matter
unfoldable pub is_listed : List ℕ → List ℕ → Bool
is_listed list number = not (all_below (λ (k : ℕ). not (same_bytes (listed list k) number)) (numbers list))

-- the cases of the list on a file: its length, then those of each number
unfoldable pub list_cases : List ℕ → List ℕ → List Case
list_cases file list =
    when (not (eqb (length list % 8) 0)) 27 ∷ item_by_item (λ (k : ℕ). number_cases file (listed list k)) (numbers list)

-- a list of whole numbers is these numbers, end to end; the theorem is `listed_all` of proofs/Listed
abbrev pub ListedAll : Type 0
ListedAll = (list : List ℕ) → length list % 8 ≡ 0 → row (listed list) (numbers list) ≡ list
