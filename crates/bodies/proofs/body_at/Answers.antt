-- `bodies::body_at` meets its contract: start and length are read from the entry. The check finds this too, but takes minutes to refuse its
-- edits.
use Rattle.bodies.specs.Bodies.{body_at}
use Rattle.bodies.proofs.body_at.Goals as goal

pub returns : goal.returns
unfolding body_at
returns c =
    record {
      bytes =
          rw (
            ← c.directory.ensures.bytes,
            ← c.entry-entry.ensures.bytes,
            ← c.u32_at.ensures.0,
            ← c.u32_at-2.ensures.0,
          ) c.part.ensures.bytes;
      place =
          rw (
            ← c.directory.ensures.bytes,
            ← c.entry-entry.ensures.bytes,
            ← c.u32_at.ensures.0,
          ) c.part.ensures.place;
    }
