-- Both sample archives made again by the definitions that the contract of sealing cites (02, a): of a sheet of their two jobs and of
-- `dried`, byte for byte, in layout 1, and in layout 2 under the tag key; the same jobs with key length 0 on their sheet (02, j); and what
-- sealing answers about the limits of its cases.
-- Assumes nothing.
use Rattle.std.specs.Prelude.{◌≡◌, Bool, List, [], ◌∷◌, ◌++◌, ℕ, length, get_or, take, drop, replicate}
use Rattle.refusals.specs.Answers.{gives}
use Rattle.octets.specs.Numbers.{bytes32}
use Rattle.sealing.specs.Seal.{key_on, sealed_file, seal_of}
use Rattle.sealing.specs.OwnJobs.{sheet_of, plains_of}
use Rattle.readings.specs.Vectors.{rfc_key}
use Rattle.readings.specs.Sample.{sample_file, sample_plain, gave, refused_by}
use Rattle.readings.specs.Tagged.{tagged_file, sample_tag_key}

-- the sheet of both: 16 bytes of key, archive 7, job 24000017 of 5 bytes and job 24000018 of none
unfoldable pub sample_sheet : List ℕ
sample_sheet =
    0x10 ∷ 0x00 ∷ 0x00 ∷ 0x00 ∷ 0x07
    ∷ 0x32 ∷ 0x34 ∷ 0x30 ∷ 0x30 ∷ 0x30 ∷ 0x30 ∷ 0x31 ∷ 0x37 ∷ 0x00 ∷ 0x00 ∷ 0x00 ∷ 0x05
    ∷ 0x32 ∷ 0x34 ∷ 0x30 ∷ 0x30 ∷ 0x30 ∷ 0x30 ∷ 0x31 ∷ 0x38 ∷ 0x00 ∷ 0x00 ∷ 0x00 ∷ 0x00 ∷ []

-- the archive of the same jobs under the 32 bytes 00 01 .. 1f; its key check and its body are libcrypto's
unfoldable pub sample_under32 : List ℕ
sample_under32 =
    0x01 ∷ 0x20 ∷ 0x00 ∷ 0x02 ∷ 0x00 ∷ 0x00 ∷ 0x00 ∷ 0x07
    ∷ 0xcf ∷ 0x0a ∷ 0x50 ∷ 0x43 ∷ 0xe9 ∷ 0xb4 ∷ 0x3e ∷ 0x9d
    ∷ 0x00 ∷ 0x00 ∷ 0x00 ∷ 0x39
    ∷ 0x32 ∷ 0x34 ∷ 0x30 ∷ 0x30 ∷ 0x30 ∷ 0x30 ∷ 0x31 ∷ 0x37 ∷ 0x00 ∷ 0x00 ∷ 0x00 ∷ 0x34 ∷ 0x00 ∷ 0x00 ∷ 0x00 ∷ 0x05
    ∷ 0x32 ∷ 0x34 ∷ 0x30 ∷ 0x30 ∷ 0x30 ∷ 0x30 ∷ 0x31 ∷ 0x38 ∷ 0x00 ∷ 0x00 ∷ 0x00 ∷ 0x39 ∷ 0x00 ∷ 0x00 ∷ 0x00 ∷ 0x00
    ∷ 0x28 ∷ 0xc2 ∷ 0x93 ∷ 0xb9 ∷ 0xe9 ∷ []

-- of a key file, a tag key, a sheet and plain bytes sealing makes the file, and gives its length where the buffer is just as long; and that
-- sheet and those bytes are what the theorem on rebuilding of crate sealed_archives takes of the file
pub record SealsInto (key_file tag_key sheet plain file : List ℕ) : Type 0 where
  pub bytes : sealed_file key_file tag_key sheet plain ≡ file
  pub answered : seal_of key_file tag_key sheet (length plain) (length file) ≡ gives (length file)
  pub own_sheet : sheet_of (get_or sheet 0 0) file ≡ sheet
  pub own_plain : plains_of (key_on key_file sheet) file ≡ plain

-- so the sample archive, the tagged one, and the sample once more: "The key is the first so many bytes of the key file", here of 32; and
-- with that key file "key length 0 on a sheet shall now mean 32": the archive under all 32
pub record SamplesSealed : Type 0 where
  pub sample : SealsInto (rfc_key 16) [] sample_sheet sample_plain sample_file
  pub tagged : SealsInto (rfc_key 16) sample_tag_key sample_sheet sample_plain tagged_file
  pub front : SealsInto (rfc_key 32) [] sample_sheet sample_plain sample_file
  pub key_0 : SealsInto (rfc_key 32) [] (0x00 ∷ drop 1 sample_sheet) sample_plain sample_under32

-- the sheet with its jobs in the other order, and with another length of its second job
unfoldable pub swapped_sheet : List ℕ
swapped_sheet = take 5 sample_sheet ++ (drop 17 sample_sheet ++ take 12 (drop 5 sample_sheet))

unfoldable pub sheet_with : ℕ → List ℕ
sheet_with n = take 25 sample_sheet ++ bytes32 n

-- `dried` makes an archive of 57 bytes, of 73 with a tag. A sheet that is a byte short, and one of no bytes with an empty key file; first
-- byte 17, and so with an empty key file; an empty key file; for a key of 24 bytes files of 16, of 23, and of 24, which is enough. First
-- byte 0 with a key file of 16 bytes, and so with the jobs in the other order; of 24 and of 31; of 32, which is enough; of 16 with a sheet
-- that is a byte short. A tag key of 31 bytes. 65 lines, and 64, all of one number; a number with `:`, which is no digit; the jobs in the
-- other order. An archive of 65,537 bytes, and of 65,536, and so with a tag. A plain byte too few, and so with no buffer; one too many, and
-- so with no buffer; a buffer that is a byte short, and so with a tag. At last a sheet of no jobs, of which a header alone is made
unfoldable pub seal_readings : List Bool
seal_readings =
    refused_by 21 (seal_of (rfc_key 16) [] (take 28 sample_sheet) 5 57)
    ∷ refused_by 21 (seal_of [] [] [] 5 57)
    ∷ refused_by 22 (seal_of (rfc_key 16) [] (0x11 ∷ drop 1 sample_sheet) 5 57)
    ∷ refused_by 22 (seal_of [] [] (0x11 ∷ drop 1 sample_sheet) 5 57)
    ∷ refused_by 1 (seal_of [] [] sample_sheet 5 57)
    ∷ refused_by 1 (seal_of (rfc_key 16) [] (0x18 ∷ drop 1 sample_sheet) 5 57)
    ∷ refused_by 1 (seal_of (rfc_key 23) [] (0x18 ∷ drop 1 sample_sheet) 5 57)
    ∷ gave 57 (seal_of (rfc_key 24) [] (0x18 ∷ drop 1 sample_sheet) 5 57)
    ∷ refused_by 1 (seal_of (rfc_key 16) [] (0x00 ∷ drop 1 sample_sheet) 5 57)
    ∷ refused_by 1 (seal_of (rfc_key 16) [] (0x00 ∷ drop 1 swapped_sheet) 5 57)
    ∷ refused_by 1 (seal_of (rfc_key 24) [] (0x00 ∷ drop 1 sample_sheet) 5 57)
    ∷ refused_by 1 (seal_of (rfc_key 31) [] (0x00 ∷ drop 1 sample_sheet) 5 57)
    ∷ gave 57 (seal_of (rfc_key 32) [] (0x00 ∷ drop 1 sample_sheet) 5 57)
    ∷ refused_by 21 (seal_of (rfc_key 16) [] (0x00 ∷ take 27 (drop 1 sample_sheet)) 5 57)
    ∷ refused_by 1 (seal_of (rfc_key 16) (take 31 sample_tag_key) sample_sheet 5 73)
    ∷ refused_by 9 (seal_of (rfc_key 16) [] (take 5 sample_sheet ++ replicate 780 0x30) 5 57)
    ∷ refused_by 14 (seal_of (rfc_key 16) [] (take 5 sample_sheet ++ replicate 768 0x30) 5 57)
    ∷ refused_by 13 (seal_of (rfc_key 16) [] (take 12 sample_sheet ++ (0x3a ∷ drop 13 sample_sheet)) 5 57)
    ∷ refused_by 14 (seal_of (rfc_key 16) [] swapped_sheet 5 57)
    ∷ refused_by 6 (seal_of (rfc_key 16) [] (sheet_with 65480) 65485 65537)
    ∷ gave 65536 (seal_of (rfc_key 16) [] (sheet_with 65479) 65484 65536)
    ∷ refused_by 6 (seal_of (rfc_key 16) sample_tag_key (sheet_with 65464) 65469 65537)
    ∷ gave 65536 (seal_of (rfc_key 16) sample_tag_key (sheet_with 65463) 65468 65536)
    ∷ refused_by 16 (seal_of (rfc_key 16) [] sample_sheet 4 57)
    ∷ refused_by 16 (seal_of (rfc_key 16) [] sample_sheet 4 0)
    ∷ refused_by 17 (seal_of (rfc_key 16) [] sample_sheet 6 57)
    ∷ refused_by 17 (seal_of (rfc_key 16) [] sample_sheet 6 0)
    ∷ refused_by 20 (seal_of (rfc_key 16) [] sample_sheet 5 56)
    ∷ refused_by 20 (seal_of (rfc_key 16) sample_tag_key sample_sheet 5 72)
    ∷ gave 20 (seal_of (rfc_key 16) [] (take 5 sample_sheet) 0 20)
    ∷ []
