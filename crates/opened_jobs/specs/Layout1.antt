-- Without a tag key every call answers what it answered before layout 2 came, but for 24 in place of 7 where the layout byte is 2 (02, d);
-- admission, specs/Layout1, has 01's list and the statement on its number alone. What a call gives besides, the count, the index, the plain
-- bytes, is the same by definition: `count_of`, `index_of`, `body_at` and `plain_range` take no tag key and know no layout. The parts, the
-- buffer and the listing follow from what is answered. The theorem is `without_tag_key` of proofs/Layout1.
-- Assumes nothing.
use Rattle.std.specs.Prelude.{◌≡◌, List, [], ◌++◌, ℕ}
use Rattle.refusals.specs.Cases.{first_of}
use Rattle.refusals.specs.Answers.{answer}
use Rattle.header.specs.Fields.{count_of, directory_of}
use Rattle.directory.specs.Search.{index_of}
use Rattle.bodies.specs.Bodies.{number_cases}
use Rattle.admission.specs.Layout1.{layout1_cases, renumbered}
use Rattle.archive.specs.Check.{check_of}
use Rattle.archive.specs.Find.{find_of}
use Rattle.opening.specs.Open.{job_size, range_cases, open_of}

-- checking, finding and opening a range, a whole job being one, into a buffer of `room` bytes
pub record AsLayout1 (key file number : List ℕ) : Type 0 where
  pub checking : check_of key [] file ≡ answer (renumbered file (first_of (layout1_cases key file))) (count_of file)
  pub finding : find_of key [] file number
      ≡ answer (renumbered file (first_of (layout1_cases key file ++ number_cases file number))) (index_of (directory_of file) number)
  pub opening : (first count room : ℕ) → open_of key [] file number first count room
      ≡ answer (renumbered file (first_of (layout1_cases key file
      ++ (number_cases file number ++ range_cases (job_size file number) first count room)))) count

abbrev pub WithoutTagKey : Type 0
WithoutTagKey = (key file number : List ℕ) → AsLayout1 key file number
