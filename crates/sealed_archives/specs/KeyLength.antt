-- "key length 0 on a sheet shall now mean 32. .. A sheet with 0 gives the same bytes or refusal as with 32, so a 16-byte key file with 0 on
-- a sheet that passes 21 now gets 1" (02, j). The theorems are `zero_means_32` and `short_for_zero` of proofs/KeyLength.
-- Assumes nothing.
use Rattle.std.specs.Prelude.{◌≡◌, true, List, ◌∷◌, ℕ, ◌<◌, length}
use Rattle.refusals.specs.Answers.{Answer, refused}
use Rattle.sheet.specs.Cases.{is_length}
use Rattle.sealing.specs.Seal.{Seals}

-- any two calls that meet the contract of sealing, one on a sheet that begins with 0, the other on the same with 32 in its place, whatever
-- bytes follow, with the same key file, tag key, plain bytes and buffer: they answer the same, and leave the same in the buffer
abbrev pub ZeroMeans32 : Type 0
ZeroMeans32 = (key_file tag_key rest plain before : List ℕ) (a b : Answer) (left right : List ℕ)
    → Seals key_file tag_key (0 ∷ rest) plain before a left → Seals key_file tag_key (32 ∷ rest) plain before b right
    → (a ≡ b) × (left ≡ right)

-- with a sheet that begins with 0 and passes 21, a key file of fewer than 32 bytes, so one of 16 or of 24, gets 1, and the buffer is as it
-- was, whatever else is handed over
abbrev pub ShortForZero : Type 0
ShortForZero = (key_file tag_key rest plain before : List ℕ) (a : Answer) (after : List ℕ) → is_length (length (0 ∷ rest)) ≡ true
    → length key_file < 32 → Seals key_file tag_key (0 ∷ rest) plain before a after → (a ≡ refused 1) × (after ≡ before)
