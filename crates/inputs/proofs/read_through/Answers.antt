-- `inputs::read_through` meets its contract: what was read fits into the buffer, and is copied over its front.
-- Assumes nothing.
use mathlib.Core.Path.{sym}
use native.Mathlib.Omega.{arith}
use Rattle.inputs.proofs.Filling.{filled_copied}
use Rattle.inputs.proofs.read_through.Goals as goal

pub returns : goal.returns
returns g c =
    let counts = c.in_ok-n.ensures in
    let fits = c.requires in
    filled_copied _ c.args.buf.now _ _ (sym counts.1) (omega (arith, counts.0)) c.copy.ensures
