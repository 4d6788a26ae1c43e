-- The job sheet (02, a): "The sheet is one byte of key length, four bytes of archive number, then per job eight digits and four bytes of
-- length"; "key length 0 on a sheet shall now mean 32" (02, j). The twelve bytes of a job are a line here.
-- Every definition is over any bytes: a byte that is missing reads as 0, and bytes after the last whole line belong to none.
-- Assumes nothing.
use Rattle.std.specs.Prelude.{◌≡◌, cond, List, [], ℕ, zero, suc, ◌+◌, ◌-◌, ◌*◌, ◌/◌, ◌<◌, ◌≤◌, ltb, eqb, length, get_or, take, drop}
use Rattle.std.specs.Borrow.{Bor}
use Rattle.octets.specs.Numbers.{be32}
use Rattle.octets.specs.Parts.{lies_at}

-- how many bytes the key has, by the sheet's first byte
unfoldable pub key_size_of : ℕ → ℕ
key_size_of n = cond (eqb n 0) 32 n

abbrev pub key_size_on : List ℕ → ℕ
key_size_on sheet = key_size_of (get_or sheet 0 0)

-- the archive number, as four bytes
unfoldable pub archive_number_on : List ℕ → List ℕ
archive_number_on sheet = take 4 (drop 1 sheet)

-- the contract of handing back the archive number: its bytes, as far as the sheet reaches, and its place. Of an empty sheet the part is
-- empty and its place is left to the program
pub record NumberPart (sheet r : Bor (List ℕ)) : Type 0 where
  pub bytes : r.now ≡ archive_number_on sheet.now
  pub place : 1 ≤ length sheet.now → lies_at sheet 1 r

-- how many whole lines there are
abbrev pub lines : List ℕ → ℕ
lines sheet = (length sheet - 5) / 12

-- line i, counted from 0; no bytes where there are not so many
unfoldable pub line_at : List ℕ → ℕ → List ℕ
line_at sheet i = cond (ltb i (lines sheet)) (take 12 (drop (5 + 12 * i) sheet)) []

-- the contract of handing back line i: its bytes, and its place. Where there are not so many lines, the part is empty and its place is left
-- to the program
pub record LinePart (sheet : Bor (List ℕ)) (i : ℕ) (r : Bor (List ℕ)) : Type 0 where
  pub bytes : r.now ≡ line_at sheet.now i
  pub place : i < lines sheet.now → lies_at sheet (5 + 12 * i) r

-- the job number on line i, as it stands there, and the length of the body
abbrev pub job_number_on : List ℕ → ℕ → List ℕ
job_number_on sheet i = take 8 (line_at sheet i)

abbrev pub size_on : List ℕ → ℕ → ℕ
size_on sheet i = be32 (line_at sheet i) 8

-- the lengths on the first n lines in all, a whole number
unfoldable pub sizes_on : List ℕ → ℕ → ℕ
sizes_on sheet zero = 0
sizes_on sheet (suc n) = sizes_on sheet n + size_on sheet n
