-- `octets::copy` meets its contract: after j turns the first j bytes are copied; the loop ends where either ends.
use mathlib.Core.Path.{ap, ◌∙◌}
use mathlib.Core.List.{List}
use Prim.Native.Nat.{ℕ, ◌<◌}
use native.Mathlib.Omega.{arith}
use lib.ListN.{length, get_or, set, length-set}
use Rattle.octets.proofs.Fill.{filled_set}
use Rattle.octets.proofs.Parts.{overwritten_upto}
use Rattle.octets.proofs.copy.Goals as goal

pub loop-j-preserved : goal.loop-j-preserved
loop-j-preserved c =
    let l = c.loop-j in
    let s : List ℕ = c.args.bytes.now in
    let xs : List ℕ = c.args.out.now in
    let room : l.j < length xs = omega (arith, c.min-j-end.ensures, c.loop-j-test.true) in
    let more : l.j < length s = omega (arith, c.min-j-end.ensures, c.loop-j-test.true) in (
      simp length-set l.invariant.0,
      ap (λ (o : List ℕ). set o l.j (get_or s l.j 0)) l.invariant.1 ∙ filled_set s xs l.j room more,
    )

pub returns : goal.returns
returns c =
    let l = c.loop-j in
    l.invariant.1 ∙ overwritten_upto c.args.bytes.now c.args.out.now l.j (omega (arith, c.min-j-end.ensures))
