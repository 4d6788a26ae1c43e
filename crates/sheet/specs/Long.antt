-- What is handed on of a sheet that may be longer than any that is taken: 65 lines are one too many, and 21 is told by the length alone,
-- so of more than 785 bytes the first 785 and as many as the length is over a whole line are enough. The theorem is `handed_on_lem` of
-- proofs/Long; that they are enough is `LongSheet` of crate sealed_archives.
-- Assumes nothing.
use Rattle.std.specs.Prelude.{◌≡◌, cond, List, ℕ, ◌+◌, ◌-◌, ◌%◌, ltb, length, take}

-- the first bytes of a sheet of more than 785, and any other whole
unfoldable pub cut_sheet : List ℕ → List ℕ
cut_sheet sheet = cond (ltb 785 (length sheet)) (take (785 + (length sheet - 5) % 12) sheet) sheet

-- how many they are, where the first n bytes were read, 796 at most, and how many are beyond these is known by the remainder modulo 12
unfoldable pub handed_on : ℕ → ℕ → ℕ
handed_on n beyond = cond (ltb n 796) n (785 + (11 + beyond % 12) % 12)

-- so of what was read of a sheet these are handed on
abbrev pub HandedOn : Type 0
HandedOn = (sheet : List ℕ) → take (handed_on (length (take 796 sheet)) ((length sheet - 796) % 12)) (take 796 sheet) ≡ cut_sheet sheet
