-- The header of an archive (01, The dryer archive: the plate), 20 bytes: byte 0 layout, 1, or 2 (02, d); byte 1 key length in bytes; 2 to 3
-- count of jobs; 4 to 7 archive number; 8 to 15 key check; 16 to 19 whole length of the file. The directory follows, then the bodies, then
-- in layout 2 the tag: "The file ends in a 16-byte tag under a second key", the tag key, "taken over all bytes before it. The whole length
-- includes the tag".
-- Every definition is over any bytes: a byte that is missing reads as 0.
-- Assumes nothing.
use Rattle.std.specs.Prelude.{◌≡◌, Bool, cond, ◌||◌, List, ℕ, ◌+◌, ◌-◌, ◌*◌, ◌≤◌, eqb, length, get_or, take, drop}
use Rattle.std.specs.Borrow.{Bor}
use Rattle.octets.specs.Numbers.{be16, be32}
use Rattle.octets.specs.Parts.{lies_at}

abbrev pub layout_of : List ℕ → ℕ
layout_of file = get_or file 0 0

-- the layouts that there are
unfoldable pub is_layout : ℕ → Bool
is_layout n = eqb n 1 || eqb n 2

-- the layout that is read and written under a tag key: 1 where there is none, which is a tag key of 0 bytes
unfoldable pub layout_under : List ℕ → ℕ
layout_under tag_key = cond (eqb (length tag_key) 0) 1 2

-- how many bytes the tag has
unfoldable pub tag_size : ℕ → ℕ
tag_size layout = cond (eqb layout 2) 16 0

-- the length of the key that the archive was sealed with
abbrev pub key_length_of : List ℕ → ℕ
key_length_of file = get_or file 1 0

-- the count of jobs
unfoldable pub count_of : List ℕ → ℕ
count_of file = be16 file 2

-- the archive number, as four bytes
unfoldable pub archive_number : List ℕ → List ℕ
archive_number file = take 4 (drop 4 file)

-- the contract of handing back the archive number: its bytes, as far as the file reaches, and its place. Of a file that ends before byte 4
-- the part is empty and its place is left to the program
pub record NumberPart (file r : Bor (List ℕ)) : Type 0 where
  pub bytes : r.now ≡ archive_number file.now
  pub place : 4 ≤ length file.now → lies_at file 4 r

-- the key check that the header carries
abbrev pub key_check_of : List ℕ → List ℕ
key_check_of file = take 8 (drop 8 file)

-- the whole length that the header states
abbrev pub length_of : List ℕ → ℕ
length_of file = be32 file 16

-- where the directory ends and the first body has to start
abbrev pub directory_end : List ℕ → ℕ
directory_end file = 20 + 16 * count_of file

-- the directory: 16 bytes a job, from byte 20, as far as the file reaches
unfoldable pub directory_of : List ℕ → List ℕ
directory_of file = take (16 * count_of file) (drop 20 file)

-- the contract of handing back the directory, in the same way
pub record DirectoryPart (file r : Bor (List ℕ)) : Type 0 where
  pub bytes : r.now ≡ directory_of file.now
  pub place : 20 ≤ length file.now → lies_at file 20 r

-- where the bodies have to end: at the tag, or at the file's end where there is none; 0 where the file is shorter than the tag
abbrev pub bodies_end : List ℕ → ℕ
bodies_end file = length file - tag_size (layout_of file)

-- the tag, no bytes in layout 1, and the bytes that it is taken over; a file that is shorter than the tag is all tag
unfoldable pub tag_of : List ℕ → List ℕ
tag_of file = drop (bodies_end file) file

unfoldable pub tagged_of : List ℕ → List ℕ
tagged_of file = take (bodies_end file) file
