-- `sheet::archive_number` meets its contract: the part of four bytes at its place.
use Rattle.sheet.specs.Sheet.{archive_number_on}
use Rattle.sheet.proofs.archive_number.Goals as goal

pub returns : goal.returns
unfolding archive_number_on
returns c = record { bytes = c.part.ensures.bytes; place = c.part.ensures.place }
