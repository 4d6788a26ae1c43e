-- `header::directory` meets its contract: the part from byte 20 on. The check finds this too, but takes minutes to refuse its edits.
use Rattle.header.specs.Fields.{directory_of}
use Rattle.header.proofs.directory.Goals as goal

pub returns : goal.returns
unfolding directory_of
returns c = record { bytes = rw (← c.count.ensures.0) c.part.ensures.bytes; place = c.part.ensures.place }
