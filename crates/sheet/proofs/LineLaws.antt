-- Lines of a sheet within it and past its end, and the sums of their lengths.
-- Assumes nothing.
use mathlib.Core.Path.{◌≡◌, ap}
use mathlib.Core.List.{List, []}
use mathlib.Core.Logic.{⊎_elim}
use Prim.Native.Nat.{ℕ, zero, suc, ◌+◌, ◌*◌, ◌<◌, ◌≤◌}
use native.Mathlib.Nat.{eq-or-lt_of_le}
use native.Mathlib.Numerals.{add-one}
use native.Mathlib.Omega.{arith}
use borrow.Author.Tests.{lt-ltb, le-ltb}
use lib.ListN.{length, take, drop, length-take, length-drop}
use lib.Seq.{length-take-le}
use Rattle.sheet.specs.Sheet.{archive_number_on, lines, line_at, job_number_on, size_on, sizes_on}

pub line_inside : (sheet : List ℕ) (i : ℕ) → i < lines sheet → line_at sheet i ≡ take 12 (drop (5 + 12 * i) sheet)
unfolding line_at
line_inside sheet i l = rw (lt-ltb i (lines sheet) l)

pub line_none : (sheet : List ℕ) (i : ℕ) → lines sheet ≤ i → line_at sheet i ≡ []
unfolding line_at
line_none sheet i l = rw (le-ltb i (lines sheet) l)

pub line_length : (sheet : List ℕ) (i : ℕ) → i < lines sheet → length (line_at sheet i) ≡ 12
line_length sheet i l = rw (line_inside sheet i l) (simp (length-take, length-drop) (omega arith))

pub number_length : (sheet : List ℕ) → 5 ≤ length sheet → length (archive_number_on sheet) ≡ 4
unfolding archive_number_on
number_length sheet h = simp (length-take, length-drop) (omega arith)

-- one line more
pub sizes_next : (sheet : List ℕ) (i : ℕ) → sizes_on sheet (i + 1) ≡ sizes_on sheet i + size_on sheet i
unfolding sizes_on
sizes_next sheet i = ap (sizes_on sheet) (add-one i)

-- more lines have more bytes in all
pub sizes_grow : (sheet : List ℕ) (i n : ℕ) → i ≤ n → sizes_on sheet i ≤ sizes_on sheet n
unfolding sizes_on
sizes_grow sheet i zero l = let z : i ≡ 0 = omega arith in rw z (omega arith)
sizes_grow sheet i (suc n) l =
    ⊎_elim (λ q. rw q (omega arith)) (λ q. omega (arith, sizes_grow sheet i n (omega arith))) (eq-or-lt_of_le {n = i} {m = suc n} l)

-- up to the end of a line, no more than in all
pub sizes_within : (sheet : List ℕ) (i : ℕ) → i < lines sheet → sizes_on sheet i + size_on sheet i ≤ sizes_on sheet (lines sheet)
unfolding sizes_on
sizes_within sheet i l = sizes_grow sheet (suc i) (lines sheet) l

pub job_length : (sheet : List ℕ) (i : ℕ) → i < lines sheet → length (job_number_on sheet i) ≡ 8
job_length sheet i l = length-take-le 8 (line_at sheet i) (omega (arith, line_length sheet i l))
