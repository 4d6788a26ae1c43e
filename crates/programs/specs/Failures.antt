-- What a program says when something goes wrong: a line of its name and what that was, or the line of a refusal (01, The program jobs).
-- Assumes nothing.
use Rattle.std.specs.Prelude.{List, [], ◌∷◌, ◌++◌, ℕ}
use Rattle.refusals.specs.Numbers.{number}
use Rattle.listing.specs.Text.{refused_word, number_line}
use Rattle.programs.specs.declared.Failure.{Failure}
use Rattle.programs.specs.declared.Failure.TheVariants.{Read, ReadSheet, Write, Refused}

-- `: could not read`, with a newline
abbrev pub read_words : List ℕ
read_words = 58 ∷ 32 ∷ 99 ∷ 111 ∷ 117 ∷ 108 ∷ 100 ∷ 32 ∷ 110 ∷ 111 ∷ 116 ∷ 32 ∷ 114 ∷ 101 ∷ 97 ∷ 100 ∷ 10 ∷ []

-- `: could not read sheet.bin`, with a newline
abbrev pub sheet_words : List ℕ
sheet_words =
    58 ∷ 32 ∷ 99 ∷ 111 ∷ 117 ∷ 108 ∷ 100 ∷ 32 ∷ 110 ∷ 111 ∷ 116 ∷ 32 ∷ 114 ∷ 101 ∷ 97 ∷ 100 ∷ 32
    ∷ 115 ∷ 104 ∷ 101 ∷ 101 ∷ 116 ∷ 46 ∷ 98 ∷ 105 ∷ 110 ∷ 10
    ∷ []

-- `: could not write`, with a newline
abbrev pub write_words : List ℕ
write_words = 58 ∷ 32 ∷ 99 ∷ 111 ∷ 117 ∷ 108 ∷ 100 ∷ 32 ∷ 110 ∷ 111 ∷ 116 ∷ 32 ∷ 119 ∷ 114 ∷ 105 ∷ 116 ∷ 101 ∷ 10 ∷ []

-- what the program of that name says
abbrev pub failure_text : List ℕ → Failure → List ℕ
failure_text name Read = name ++ read_words
failure_text name ReadSheet = name ++ sheet_words
failure_text name Write = name ++ write_words
failure_text name (Refused refusal) = number_line refused_word (number refusal)
