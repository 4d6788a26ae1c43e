-- Lengths of the pieces of the listing, and of its lines.
-- Assumes nothing.
use mathlib.Core.Path.{◌≡◌, ◌∙◌}
use mathlib.Core.List.{List, [], ◌∷◌}
use Prim.Native.Nat.{ℕ, suc, ◌+◌}
use native.Mathlib.Omega.{arith}
use lib.ListN.{length, length-append}
use Rattle.blocks.specs.Blocks.{row}
use Rattle.directory.specs.Entries.{entry_at, number_of, start_of, size_of}
use Rattle.decimal.specs.Decimal.{decimal_digits}
use Rattle.listing.specs.Text.{field, number_line, job_line, job_lines}

pub length_field : (n : ℕ) → length (field n) ≡ suc (length (decimal_digits n))
unfolding field
length_field n = length-append (32 ∷ []) (decimal_digits n) ∙ omega arith

pub length_number_line : (word : List ℕ) (n : ℕ) → length (number_line word n) ≡ length word + length (decimal_digits n) + 1
unfolding number_line
length_number_line word n = simp length-append

pub length_job_line : (e : List ℕ) → length (job_line e)
    ≡ length (number_of e) + length (field (start_of e)) + length (field (size_of e)) + 1
unfolding job_line
length_job_line e = simp length-append

pub lines_more : (d : List ℕ) (n : ℕ) → length (job_lines d (suc n)) ≡ length (job_lines d n) + length (job_line (entry_at d n))
unfolding job_lines row
lines_more d n = length-append (job_lines d n) (job_line (entry_at d n))
