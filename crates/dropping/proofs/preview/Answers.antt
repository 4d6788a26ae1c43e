-- `dropping::preview` meets its contract: what dropping asks first, and then the room for the directory and its bytes.
use Rattle.std.proofs.Common.{sym}
use Rattle.dropping.proofs.Previewing.{preview_written}
use Rattle.dropping.proofs.preview.Goals as goal

pub returns : goal.returns
returns c =
    let a = c.args in
    let known = c.in_ok-left.ensures in
    preview_written a.key.now a.tag_key.now a.file.now a.list.now a.out.now (sym known.number) _ known.left.1 _ _
    (rw known.left.0 at c.preview.ensures)
