-- The text of 01's example, computed: archive number 7 with job 24000017 of 5 bytes and job 24000018 of 0 bytes; and a refusal's line.
-- Assumes nothing.
use mathlib.Core.Path.{◌≡◌, refl}
use mathlib.Core.List.{List, [], ◌∷◌}
use Prim.Native.Nat.{ℕ}
use Rattle.refusals.specs.Answers.{gives, refused}
use Rattle.blocks.specs.Blocks.{row}
use Rattle.directory.specs.Entries.{entry_at}
use Rattle.decimal.specs.Decimal.{digits_in, decimal_digits}
use Rattle.listing.specs.Text.{field, number_line, job_line, job_lines, text_of}

abbrev pub directory : List ℕ
directory =
    50 ∷ 52 ∷ 48 ∷ 48 ∷ 48 ∷ 48 ∷ 49 ∷ 55 ∷ 0 ∷ 0 ∷ 0 ∷ 52 ∷ 0 ∷ 0 ∷ 0 ∷ 5
    ∷ 50 ∷ 52 ∷ 48 ∷ 48 ∷ 48 ∷ 48 ∷ 49 ∷ 56 ∷ 0 ∷ 0 ∷ 0 ∷ 57 ∷ 0 ∷ 0 ∷ 0 ∷ 0
    ∷ []

-- jobs 2, 24000017 52 5, 24000018 57 0
pub example_jobs :
    text_of (gives 2) directory
    ≡ 106 ∷ 111 ∷ 98 ∷ 115 ∷ 32 ∷ 50 ∷ 10
    ∷ 50 ∷ 52 ∷ 48 ∷ 48 ∷ 48 ∷ 48 ∷ 49 ∷ 55 ∷ 32 ∷ 53 ∷ 50 ∷ 32 ∷ 53 ∷ 10
    ∷ 50 ∷ 52 ∷ 48 ∷ 48 ∷ 48 ∷ 48 ∷ 49 ∷ 56 ∷ 32 ∷ 53 ∷ 55 ∷ 32 ∷ 48 ∷ 10
    ∷ []
unfolding text_of number_line row job_lines job_line field decimal_digits digits_in entry_at
example_jobs = refl

-- refused 5
pub example_refused : text_of (refused 5) [] ≡ 114 ∷ 101 ∷ 102 ∷ 117 ∷ 115 ∷ 101 ∷ 100 ∷ 32 ∷ 53 ∷ 10 ∷ []
unfolding text_of number_line decimal_digits digits_in
example_refused = refl
