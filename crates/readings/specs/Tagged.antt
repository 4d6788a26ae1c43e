-- The archive of layout 2 that docs/FORMAT.md works byte by byte, examples/tagged/archive.bin, by the definitions that the contracts cite:
-- its listing is that of the sample, and what it is refused for under other tag keys, with changed bytes, and cut short.
-- Assumes nothing.
use Rattle.std.specs.Prelude.{Bool, List, [], ◌∷◌, ◌++◌, ℕ, ◌+◌, take, drop}
use Rattle.octets.specs.Equality.{same_bytes}
use Rattle.octets.specs.Tables.{values}
use Rattle.archive.specs.Check.{check_of}
use Rattle.opening.specs.Open.{open_of}
use Rattle.listing.specs.Listing.{listing_text}
use Rattle.readings.specs.Readings.{job24000017}
use Rattle.readings.specs.Vectors.{rfc_key}
use Rattle.readings.specs.Sample.{sample_file, sample_text, gave, refused_by}

-- the sample's bytes with layout 2 and the whole length 73, then the tag
unfoldable pub tagged_file : List ℕ
tagged_file =
    0x02 ∷ take 18 (drop 1 sample_file)
    ++ (0x49 ∷ drop 20 sample_file
    ++ (0x1b ∷ 0xe9 ∷ 0xd3 ∷ 0x98 ∷ 0xb9 ∷ 0xc7 ∷ 0x66 ∷ 0x3e ∷ 0x4e ∷ 0xc3 ∷ 0x45 ∷ 0x11 ∷ 0xc4 ∷ 0x34 ∷ 0xe3 ∷ 0x87 ∷ []))

-- 10 to 2f
unfoldable pub sample_tag_key : List ℕ
sample_tag_key = values (λ (i : ℕ). 0x10 + i) 32

-- the listing, and how many bytes the job opens to; with the last byte of the body changed, and of the tag; with no tag key, and the first
-- sample with one; with a tag key of 31 bytes, and of 33 on a file of no bytes; cut short by a byte, where the whole length differs; and
-- 02's reading, 20 bytes of layout 2, with no tag key and, with no jobs and the right whole length, with one. Then two faults at once: a
-- byte too many before a wrong tag gets 17 before 25; another key length with no tag key 24 before 8; layout 3 under a tag key 7 before 24
unfoldable pub tagged_readings : List Bool
tagged_readings =
    same_bytes (listing_text (rfc_key 16) sample_tag_key tagged_file) sample_text
    ∷ gave 5 (open_of (rfc_key 16) sample_tag_key tagged_file job24000017 0 5 5)
    ∷ refused_by 25 (open_of (rfc_key 16) sample_tag_key (take 56 tagged_file ++ (0xa7 ∷ drop 57 tagged_file)) job24000017 0 5 5)
    ∷ refused_by 25 (check_of (rfc_key 16) sample_tag_key (take 72 tagged_file ++ (0x86 ∷ [])))
    ∷ refused_by 24 (check_of (rfc_key 16) [] tagged_file)
    ∷ refused_by 24 (check_of (rfc_key 16) sample_tag_key sample_file)
    ∷ refused_by 1 (check_of (rfc_key 16) (take 31 sample_tag_key) tagged_file)
    ∷ refused_by 1 (check_of (rfc_key 16) (values (λ (i : ℕ). i) 33) [])
    ∷ refused_by 10 (check_of (rfc_key 16) sample_tag_key (take 72 tagged_file))
    ∷ refused_by 24 (check_of (rfc_key 16) [] (take 20 tagged_file))
    ∷ refused_by 11 (check_of (rfc_key 16) sample_tag_key (take 3 tagged_file
    ++ (0x00 ∷ take 12 (drop 4 tagged_file) ++ (0 ∷ 0 ∷ 0 ∷ 0x14 ∷ []))))
    ∷ refused_by 17 (check_of (rfc_key 16) sample_tag_key (take 19 tagged_file ++ (0x4a ∷ drop 20 tagged_file ++ (0x00 ∷ []))))
    ∷ refused_by 24 (check_of (rfc_key 16) [] (0x02 ∷ 0x18 ∷ drop 2 tagged_file))
    ∷ refused_by 7 (check_of (rfc_key 16) sample_tag_key (0x03 ∷ drop 1 tagged_file))
    ∷ []
