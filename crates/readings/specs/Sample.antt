-- The archive that docs/FORMAT.md works byte by byte, examples/sample/archive.bin, by the definitions that the contracts cite: what `jobs`
-- prints of it, which is 01's printed example, and what its first job and a range of it open to.
-- Assumes nothing.
use Rattle.std.specs.Prelude.{Bool, false, List, [], ◌∷◌, ◌++◌, ℕ, eqb, take}
use Rattle.refusals.specs.Answers.{Answer, refused, gives}
use Rattle.octets.specs.Equality.{same_bytes}
use Rattle.expansion.specs.KeySchedule.{schedule_of}
use Rattle.opening.specs.Open.{plain_of, plain_range, open_of}
use Rattle.listing.specs.Listing.{listing_text}
use Rattle.readings.specs.Readings.{job24000017}
use Rattle.readings.specs.Vectors.{rfc_key}

-- header, two entries, one body; the key is the 16-byte key of RFC 5794, A.1
unfoldable pub sample_file : List ℕ
sample_file =
    0x01 ∷ 0x10 ∷ 0x00 ∷ 0x02 ∷ 0x00 ∷ 0x00 ∷ 0x00 ∷ 0x07
    ∷ 0x68 ∷ 0x5c ∷ 0x67 ∷ 0x8e ∷ 0x54 ∷ 0x5d ∷ 0x7b ∷ 0x37
    ∷ 0x00 ∷ 0x00 ∷ 0x00 ∷ 0x39
    ∷ 0x32 ∷ 0x34 ∷ 0x30 ∷ 0x30 ∷ 0x30 ∷ 0x30 ∷ 0x31 ∷ 0x37 ∷ 0x00 ∷ 0x00 ∷ 0x00 ∷ 0x34 ∷ 0x00 ∷ 0x00 ∷ 0x00 ∷ 0x05
    ∷ 0x32 ∷ 0x34 ∷ 0x30 ∷ 0x30 ∷ 0x30 ∷ 0x30 ∷ 0x31 ∷ 0x38 ∷ 0x00 ∷ 0x00 ∷ 0x00 ∷ 0x39 ∷ 0x00 ∷ 0x00 ∷ 0x00 ∷ 0x00
    ∷ 0x71 ∷ 0xa8 ∷ 0x93 ∷ 0x2a ∷ 0xa6 ∷ []

-- the three lines of 01, The program `jobs`
unfoldable pub sample_text : List ℕ
sample_text =
    0x6a ∷ 0x6f ∷ 0x62 ∷ 0x73 ∷ 0x20 ∷ 0x32 ∷ 0x0a
    ∷ 0x32 ∷ 0x34 ∷ 0x30 ∷ 0x30 ∷ 0x30 ∷ 0x30 ∷ 0x31 ∷ 0x37 ∷ 0x20 ∷ 0x35 ∷ 0x32 ∷ 0x20 ∷ 0x35 ∷ 0x0a
    ∷ 0x32 ∷ 0x34 ∷ 0x30 ∷ 0x30 ∷ 0x30 ∷ 0x30 ∷ 0x31 ∷ 0x38 ∷ 0x20 ∷ 0x35 ∷ 0x37 ∷ 0x20 ∷ 0x30 ∷ 0x0a ∷ []

-- `dried`
unfoldable pub sample_plain : List ℕ
sample_plain = 0x64 ∷ 0x72 ∷ 0x69 ∷ 0x65 ∷ 0x64 ∷ []

-- an answer gives n, or refuses with n
unfoldable pub gave : ℕ → Answer → Bool
gave n (gives m) = eqb m n
gave n (refused m) = false

unfoldable pub refused_by : ℕ → Answer → Bool
refused_by n (gives m) = false
refused_by n (refused m) = eqb m n

-- the listing; the whole job; bytes 1 to 3 of it, `rie`; the range of no bytes at its very end, and one within it; one that passes its end,
-- and one within it with a buffer that is a byte short. Then past the end and too long for the buffer at once; of no bytes, past the end; a
-- sum of 2^64; of job 24000019, which is not there, and of seven digits, past every end
unfoldable pub sample_readings : List Bool
sample_readings =
    same_bytes (listing_text (rfc_key 16) [] sample_file) sample_text
    ∷ same_bytes (plain_of (schedule_of (rfc_key 16)) sample_file job24000017) sample_plain
    ∷ same_bytes (plain_range (schedule_of (rfc_key 16)) sample_file job24000017 1 3) (0x72 ∷ 0x69 ∷ 0x65 ∷ [])
    ∷ gave 0 (open_of (rfc_key 16) [] sample_file job24000017 5 0 0)
    ∷ gave 3 (open_of (rfc_key 16) [] sample_file job24000017 1 3 3)
    ∷ refused_by 26 (open_of (rfc_key 16) [] sample_file job24000017 5 1 8)
    ∷ refused_by 20 (open_of (rfc_key 16) [] sample_file job24000017 1 3 2)
    ∷ refused_by 26 (open_of (rfc_key 16) [] sample_file job24000017 1 5 2)
    ∷ refused_by 26 (open_of (rfc_key 16) [] sample_file job24000017 6 0 0)
    ∷ refused_by 26 (open_of (rfc_key 16) [] sample_file job24000017 18446744073709551615 1 8)
    ∷ refused_by 19 (open_of (rfc_key 16) [] sample_file (take 7 job24000017 ++ (0x39 ∷ [])) 9 9 0)
    ∷ refused_by 18 (open_of (rfc_key 16) [] sample_file (take 7 job24000017) 9 9 0)
    ∷ []
