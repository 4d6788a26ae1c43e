-- What the words of `drop` mean: `--preview` as the first, and the others in the list of job numbers, eight bytes each. The theorems are
-- `preview_no_number`, `own_number` and `no_number` of proofs/Words.
-- Assumes nothing.
use Rattle.std.specs.Prelude.{◌≡◌, Bool, true, false, cond, List, [], ◌∷◌, ℕ, eqb, length, replicate}
use Rattle.octets.specs.Equality.{same_bytes}
use Rattle.jobnumber.specs.Number.{is_job_number}

-- `--preview`
abbrev pub preview_word : List ℕ
preview_word = 45 ∷ 45 ∷ 112 ∷ 114 ∷ 101 ∷ 118 ∷ 105 ∷ 101 ∷ 119 ∷ []

-- whether a word asks for the preview; only the first is asked
abbrev pub asks_preview : List ℕ → Bool
asks_preview word = same_bytes word preview_word

-- how many words stand before the numbers: the program's own name, and then `--preview`
abbrev pub words_before : Bool → ℕ
words_before preview = cond preview 2 1

-- such a word is no job number, so that no list of numbers is taken for the preview of another
abbrev pub PreviewNoNumber : Type 0
PreviewNoNumber = (word : List ℕ) → asks_preview word ≡ true → is_job_number word ≡ false

-- a word of eight bytes is taken as it is; any other becomes eight zero bytes
unfoldable pub slot_of : List ℕ → List ℕ
slot_of word = cond (eqb (length word) 8) word (replicate 8 0)

-- a job number stays what it is
abbrev pub OwnNumber : Type 0
OwnNumber = (word : List ℕ) → is_job_number word ≡ true → slot_of word ≡ word

-- a word that is no job number becomes none, so that 18 comes in its place
abbrev pub NoNumber : Type 0
NoNumber = (word : List ℕ) → is_job_number word ≡ false → is_job_number (slot_of word) ≡ false
