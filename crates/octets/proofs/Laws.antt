-- What specs/Laws claims holds.
-- Assumes nothing.
use Rattle.octets.specs.Laws.{NumberLaws}
use Rattle.octets.proofs.Numbers.{read16, read32, written16, written32}

pub number_laws : NumberLaws
number_laws = record { read16 = read16; read32 = read32; written16 = written16; written32 = written32 }
