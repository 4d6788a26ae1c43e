-- `sealing::Draft::write_header` meets its contract: the header of these fields is copied over as many bytes.
use mathlib.Core.Path.{◌∙◌}
use Rattle.sealing.proofs.Draft.write_header.Goals as goal

pub returns : goal.returns
returns c =
    rw (
      ← c.args.self.now.stated,
      ← c.key_check.ensures.check,
      ← c.archive_number.ensures,
      ← c.lines.ensures,
      ← c.key_size.ensures.0,
    ) (c.copy_from_slice.ensures.after ∙ c.header-header.ensures)
