-- The sheet and the plain bytes of an archive's own jobs, from which it is rebuilt (02, a). That it comes out byte for byte is crate
-- sealed_archives, specs/Rebuilds.
-- Assumes nothing.
use Rattle.std.specs.Prelude.{List, ◌∷◌, ◌++◌, ℕ}
use Rattle.octets.specs.Numbers.{bytes32}
use Rattle.blocks.specs.Blocks.{row}
use Rattle.expansion.specs.KeySchedule.{schedule_of}
use Rattle.header.specs.Fields.{count_of, archive_number, directory_of}
use Rattle.directory.specs.Entries.{entry_at, number_of, size_of}
use Rattle.opening.specs.Open.{plain_of}

-- the line of entry i, and a sheet of the file's own jobs with k for its first byte
abbrev pub line_of : List ℕ → ℕ → List ℕ
line_of file i = number_of (entry_at (directory_of file) i) ++ bytes32 (size_of (entry_at (directory_of file) i))

unfoldable pub sheet_of : ℕ → List ℕ → List ℕ
sheet_of k file = k ∷ (archive_number file ++ row (line_of file) (count_of file))

-- the plain bodies that opening gives, end to end: `plain_of` is what any opening of a whole job writes (`WholeJobs` of opened_jobs)
unfoldable pub plains_of : List ℕ → List ℕ → List ℕ
plains_of key file = row (λ (i : ℕ). plain_of (schedule_of key) file (number_of (entry_at (directory_of file) i))) (count_of file)
