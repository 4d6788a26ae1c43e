-- `octets::put` meets its contract: where the bytes fit, they take the place of as many.
use native.Mathlib.Omega.{arith}
use Rattle.octets.proofs.Laying.{puts_some}
use Rattle.octets.proofs.put.Goals as goal

pub returns : goal.returns
returns c =
    let a = c.args in
    let end = c.in-Some.ensures in
    puts_some a.out.now a.at a.bytes.now _ _ _ (omega arith) (omega arith) (omega arith) c.copy_from_slice.ensures.after
