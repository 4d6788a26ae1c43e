-- The text that `jobs` prints (01, The program jobs): "The header has the count; each line has the job number's eight digits, then start
-- and length in decimal. A refusal prints one line". Fields are one space apart, and every line ends in one newline.
-- Assumes nothing.
use Rattle.std.specs.Prelude.{Bool, cond, ◌&&◌, List, [], ◌∷◌, ◌++◌, ℕ, ltb}
use Rattle.refusals.specs.Answers.{Answer, refused, gives}
use Rattle.octets.specs.Below.{all_below}
use Rattle.blocks.specs.Blocks.{row}
use Rattle.directory.specs.Entries.{entries, entry_at, number_of, start_of, size_of}
use Rattle.decimal.specs.Decimal.{decimal_digits}

-- `jobs ` and `refused `, with the space
abbrev pub jobs_word : List ℕ
jobs_word = 106 ∷ 111 ∷ 98 ∷ 115 ∷ 32 ∷ []

abbrev pub refused_word : List ℕ
refused_word = 114 ∷ 101 ∷ 102 ∷ 117 ∷ 115 ∷ 101 ∷ 100 ∷ 32 ∷ []

abbrev pub newline : List ℕ
newline = 10 ∷ []

-- a number after a space
unfoldable pub field : ℕ → List ℕ
field n = (32 ∷ []) ++ decimal_digits n

-- a line of a word and a number
unfoldable pub number_line : List ℕ → ℕ → List ℕ
number_line word n = word ++ decimal_digits n ++ newline

-- the line of an entry
unfoldable pub job_line : List ℕ → List ℕ
job_line e = number_of e ++ field (start_of e) ++ field (size_of e) ++ newline

-- the lines of the first n entries of a directory, in their order
unfoldable pub job_lines : List ℕ → ℕ → List ℕ
job_lines d n = row (λ (i : ℕ). job_line (entry_at d i)) n

-- the text, by the answer of checking an archive and its directory
unfoldable pub text_of : Answer → List ℕ → List ℕ
text_of (refused n) d = number_line refused_word n
text_of (gives count) d = number_line jobs_word count ++ job_lines d count

-- ---- a directory by itself

-- whether the start and the length in an entry have at most five digits, as in every accepted archive
unfoldable pub is_short : List ℕ → Bool
is_short e = ltb (start_of e) 100000 && ltb (size_of e) 100000

-- whether a directory has at most 64 entries, all of them such
unfoldable pub is_printable : List ℕ → Bool
is_printable d = ltb (entries d) 65 && all_below (λ (i : ℕ). is_short (entry_at d i)) (entries d)

-- the text of a directory: that of an accepted archive which has it; no bytes for one that no accepted archive can have
unfoldable pub directory_text : List ℕ → List ℕ
directory_text d = cond (is_printable d) (text_of (gives (entries d)) d) []
