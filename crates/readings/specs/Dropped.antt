-- Both sample archives with either job dropped, and one of three jobs without the middle one, by the definitions that the contract of
-- dropping cites (02, g), byte for byte; and what dropping answers about the limits of its cases, and where two of them meet.
-- Assumes nothing.
use Rattle.std.specs.Prelude.{◌≡◌, Bool, List, [], ◌∷◌, ◌++◌, ℕ, take, drop}
use Rattle.dropping.specs.Drop.{dropped_file, drop_of}
use Rattle.readings.specs.Readings.{job24000017}
use Rattle.readings.specs.Vectors.{rfc_key}
use Rattle.readings.specs.Sample.{sample_file, gave, refused_by}
use Rattle.readings.specs.Tagged.{tagged_file, sample_tag_key}

-- the other job's number; one that the sample does not have; and one that is none
unfoldable pub job24000018 : List ℕ
job24000018 = take 7 job24000017 ++ (0x38 ∷ [])

unfoldable pub missing_job : List ℕ
missing_job = take 7 job24000017 ++ (0x39 ∷ [])

unfoldable pub no_job_number : List ℕ
no_job_number = take 7 job24000017 ++ (0x3a ∷ [])

-- the sample without job 24000018: one entry, its body's start moved up by the sixteen bytes that are gone, and 41 bytes in all
unfoldable pub sample_less : List ℕ
sample_less =
    0x01 ∷ 0x10 ∷ 0x00 ∷ 0x01 ∷ 0x00 ∷ 0x00 ∷ 0x00 ∷ 0x07
    ∷ 0x68 ∷ 0x5c ∷ 0x67 ∷ 0x8e ∷ 0x54 ∷ 0x5d ∷ 0x7b ∷ 0x37
    ∷ 0x00 ∷ 0x00 ∷ 0x00 ∷ 0x29
    ∷ 0x32 ∷ 0x34 ∷ 0x30 ∷ 0x30 ∷ 0x30 ∷ 0x30 ∷ 0x31 ∷ 0x37 ∷ 0x00 ∷ 0x00 ∷ 0x00 ∷ 0x24 ∷ 0x00 ∷ 0x00 ∷ 0x00 ∷ 0x05
    ∷ 0x71 ∷ 0xa8 ∷ 0x93 ∷ 0x2a ∷ 0xa6 ∷ []

-- the same of the tagged one: layout 2, 57 bytes in all, with the tag of the first 41, which is libcrypto's
unfoldable pub tagged_less : List ℕ
tagged_less =
    0x02 ∷ take 18 (drop 1 sample_less)
    ++ (0x39 ∷ drop 20 sample_less
    ++ (0x23 ∷ 0xe7 ∷ 0x5b ∷ 0x14 ∷ 0xd5 ∷ 0x3a ∷ 0xde ∷ 0xef ∷ 0xbd ∷ 0xe6 ∷ 0xdb ∷ 0xac ∷ 0x80 ∷ 0x1d ∷ 0x04 ∷ 0x33 ∷ []))

-- without job 24000017, whose five bytes go: the entry of the other, and 36 bytes in all; and so with a tag
unfoldable pub sample_last : List ℕ
sample_last =
    0x01 ∷ 0x10 ∷ 0x00 ∷ 0x01 ∷ 0x00 ∷ 0x00 ∷ 0x00 ∷ 0x07
    ∷ 0x68 ∷ 0x5c ∷ 0x67 ∷ 0x8e ∷ 0x54 ∷ 0x5d ∷ 0x7b ∷ 0x37
    ∷ 0x00 ∷ 0x00 ∷ 0x00 ∷ 0x24
    ∷ 0x32 ∷ 0x34 ∷ 0x30 ∷ 0x30 ∷ 0x30 ∷ 0x30 ∷ 0x31 ∷ 0x38 ∷ 0x00 ∷ 0x00 ∷ 0x00 ∷ 0x24 ∷ 0x00 ∷ 0x00 ∷ 0x00 ∷ 0x00 ∷ []

unfoldable pub tagged_last : List ℕ
tagged_last =
    0x02 ∷ take 18 (drop 1 sample_last)
    ++ (0x34 ∷ drop 20 sample_last
    ++ (0xc9 ∷ 0x5f ∷ 0x2a ∷ 0xd0 ∷ 0x21 ∷ 0x57 ∷ 0xc2 ∷ 0x47 ∷ 0x6b ∷ 0xa0 ∷ 0x3e ∷ 0xe1 ∷ 0x55 ∷ 0x2a ∷ 0x0a ∷ 0x12 ∷ []))

-- three jobs, 24000017 to 24000019, of five, four and three bytes, sealed by libcrypto, and without the middle one: the last body moves up
-- past the one that goes
unfoldable pub three_jobs : List ℕ
three_jobs =
    0x01 ∷ 0x10 ∷ 0x00 ∷ 0x03 ∷ 0x00 ∷ 0x00 ∷ 0x00 ∷ 0x07
    ∷ 0x68 ∷ 0x5c ∷ 0x67 ∷ 0x8e ∷ 0x54 ∷ 0x5d ∷ 0x7b ∷ 0x37
    ∷ 0x00 ∷ 0x00 ∷ 0x00 ∷ 0x50
    ∷ 0x32 ∷ 0x34 ∷ 0x30 ∷ 0x30 ∷ 0x30 ∷ 0x30 ∷ 0x31 ∷ 0x37 ∷ 0x00 ∷ 0x00 ∷ 0x00 ∷ 0x44 ∷ 0x00 ∷ 0x00 ∷ 0x00 ∷ 0x05
    ∷ 0x32 ∷ 0x34 ∷ 0x30 ∷ 0x30 ∷ 0x30 ∷ 0x30 ∷ 0x31 ∷ 0x38 ∷ 0x00 ∷ 0x00 ∷ 0x00 ∷ 0x49 ∷ 0x00 ∷ 0x00 ∷ 0x00 ∷ 0x04
    ∷ 0x32 ∷ 0x34 ∷ 0x30 ∷ 0x30 ∷ 0x30 ∷ 0x30 ∷ 0x31 ∷ 0x39 ∷ 0x00 ∷ 0x00 ∷ 0x00 ∷ 0x4d ∷ 0x00 ∷ 0x00 ∷ 0x00 ∷ 0x03
    ∷ 0x71 ∷ 0xa8 ∷ 0x93 ∷ 0x2a ∷ 0xa6 ∷ 0x87 ∷ 0x70 ∷ 0xd1 ∷ 0x34 ∷ 0x5d ∷ 0x7d ∷ 0xf2 ∷ []

unfoldable pub three_less : List ℕ
three_less =
    0x01 ∷ 0x10 ∷ 0x00 ∷ 0x02 ∷ 0x00 ∷ 0x00 ∷ 0x00 ∷ 0x07
    ∷ 0x68 ∷ 0x5c ∷ 0x67 ∷ 0x8e ∷ 0x54 ∷ 0x5d ∷ 0x7b ∷ 0x37
    ∷ 0x00 ∷ 0x00 ∷ 0x00 ∷ 0x3c
    ∷ 0x32 ∷ 0x34 ∷ 0x30 ∷ 0x30 ∷ 0x30 ∷ 0x30 ∷ 0x31 ∷ 0x37 ∷ 0x00 ∷ 0x00 ∷ 0x00 ∷ 0x34 ∷ 0x00 ∷ 0x00 ∷ 0x00 ∷ 0x05
    ∷ 0x32 ∷ 0x34 ∷ 0x30 ∷ 0x30 ∷ 0x30 ∷ 0x30 ∷ 0x31 ∷ 0x39 ∷ 0x00 ∷ 0x00 ∷ 0x00 ∷ 0x39 ∷ 0x00 ∷ 0x00 ∷ 0x00 ∷ 0x03
    ∷ 0x71 ∷ 0xa8 ∷ 0x93 ∷ 0x2a ∷ 0xa6 ∷ 0x5d ∷ 0x7d ∷ 0xf2 ∷ []

pub record SamplesDropped : Type 0 where
  pub sample : dropped_file (rfc_key 16) [] sample_file job24000018 ≡ sample_less
  pub tagged : dropped_file (rfc_key 16) sample_tag_key tagged_file job24000018 ≡ tagged_less
  pub first : dropped_file (rfc_key 16) [] sample_file job24000017 ≡ sample_last
  pub tagged_first : dropped_file (rfc_key 16) sample_tag_key tagged_file job24000017 ≡ tagged_last
  pub middle : dropped_file (rfc_key 16) [] three_jobs job24000018 ≡ three_less
  pub twice : dropped_file (rfc_key 16) [] sample_file (job24000018 ++ job24000018) ≡ sample_less
  pub none : dropped_file (rfc_key 16) [] sample_file [] ≡ sample_file

-- job 24000018 dropped into a buffer that is just long enough, and into one that is a byte short, and so with a tag; listed twice; both
-- jobs in either order, which leaves a header, and a header and a tag, in a buffer that is a byte short too; no job, in a buffer of the
-- file's length and in one that is a byte short. A list of seven bytes, and of nine that begin with a number that is missing; a number
-- with `:`; a missing one above both entries, one below them, and one of 1997; a missing one before one with `:`, and the other way round;
-- a good one before a missing one, and before one with `:`; each of these with no buffer. At last two faults of file and list: a wrong tag
-- before a list of seven bytes, and an empty file before it
unfoldable pub drop_readings : List Bool
drop_readings =
    gave 41 (drop_of (rfc_key 16) [] sample_file job24000018 41)
    ∷ refused_by 20 (drop_of (rfc_key 16) [] sample_file job24000018 40)
    ∷ gave 57 (drop_of (rfc_key 16) sample_tag_key tagged_file job24000018 57)
    ∷ refused_by 20 (drop_of (rfc_key 16) sample_tag_key tagged_file job24000018 56)
    ∷ gave 41 (drop_of (rfc_key 16) [] sample_file (job24000018 ++ job24000018) 41)
    ∷ gave 20 (drop_of (rfc_key 16) [] sample_file (job24000017 ++ job24000018) 20)
    ∷ gave 20 (drop_of (rfc_key 16) [] sample_file (job24000018 ++ job24000017) 20)
    ∷ gave 36 (drop_of (rfc_key 16) sample_tag_key tagged_file (job24000017 ++ job24000018) 36)
    ∷ refused_by 20 (drop_of (rfc_key 16) sample_tag_key tagged_file (job24000017 ++ job24000018) 35)
    ∷ gave 57 (drop_of (rfc_key 16) [] sample_file [] 57)
    ∷ refused_by 20 (drop_of (rfc_key 16) [] sample_file [] 56)
    ∷ refused_by 27 (drop_of (rfc_key 16) [] sample_file (take 7 job24000018) 0)
    ∷ refused_by 27 (drop_of (rfc_key 16) [] sample_file (missing_job ++ (0x32 ∷ [])) 0)
    ∷ refused_by 18 (drop_of (rfc_key 16) [] sample_file no_job_number 0)
    ∷ refused_by 19 (drop_of (rfc_key 16) [] sample_file missing_job 0)
    ∷ refused_by 19 (drop_of (rfc_key 16) [] sample_file (0x32 ∷ 0x33 ∷ drop 2 job24000017) 0)
    ∷ refused_by 19 (drop_of (rfc_key 16) [] sample_file (0x39 ∷ 0x37 ∷ drop 2 job24000017) 0)
    ∷ refused_by 19 (drop_of (rfc_key 16) [] sample_file (missing_job ++ no_job_number) 0)
    ∷ refused_by 18 (drop_of (rfc_key 16) [] sample_file (no_job_number ++ missing_job) 0)
    ∷ refused_by 19 (drop_of (rfc_key 16) [] sample_file (job24000017 ++ missing_job) 0)
    ∷ refused_by 18 (drop_of (rfc_key 16) [] sample_file (job24000017 ++ no_job_number) 0)
    ∷ refused_by 25 (drop_of (rfc_key 16) sample_tag_key (take 72 tagged_file ++ (0x86 ∷ [])) (take 7 job24000018) 57)
    ∷ refused_by 5 (drop_of (rfc_key 16) [] [] (take 7 job24000018) 0)
    ∷ []
