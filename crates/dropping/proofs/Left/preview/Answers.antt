-- `dropping::Left::preview` meets its contract: the room for the directory is asked for first.
use Rattle.std.proofs.Common.{arith}
use Rattle.dropping.proofs.Previewing.{marked_done}
use Rattle.dropping.proofs.Left.preview.Goals as goal

pub returns : goal.returns
returns c =
    let left = c.args.self.now in
    marked_done left.named left.file.now c.args.out.now left.whole c.count-count.result c.whole_length-length.result _
    (omega (arith, c.if-out-count.false)) c.count-count.ensures.0 c.whole_length-length.ensures c.write_directory.ensures
