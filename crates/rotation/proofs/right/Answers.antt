-- `rotation::right` meets its contract: std's rotation of the block's number is the one of the definition.
use mathlib.Core.Path.{◌≡◌, ap, ◌∙◌}
use mathlib.Core.List.{List}
use Prim.Native.Nat.{ℕ}
use borrow.Author.Rules.{rules}
use mir.Val.{Fits}
use mir.Syntax.{w8}
use lib.ListN.{length, get_or}
use Rattle.std.specs.Int.{w128, rotate_right as rotated_right}
use Rattle.octets.specs.Numbers.{Octets}
use Rattle.rotation.specs.Rotation.{as_number, as_block}
use Rattle.rotation.proofs.Numbers.{from_bytes, to_bytes, block_lt}
use Rattle.rotation.proofs.Rotations.{right_law}
use Rattle.rotation.proofs.right.Goals as goal

pub returns : goal.returns
returns c =
    let b : List ℕ = c.args.block in
    let k : ℕ = c.args.amount in
    let lb : length b ≡ 16 = search rules in
    let bytes : Octets b = λ i. let g : Fits w8 (get_or b i 0) = search rules in g.fits in
    c.to_be_bytes.ensures
    ∙ to_bytes c.rotate_right.result
    ∙ ap as_block
    (c.rotate_right.ensures
    ∙ ap (λ (n : ℕ). rotated_right w128 n k) (c.from_be_bytes-number.ensures ∙ from_bytes b lb)
    ∙ right_law (as_number b) k (block_lt b bytes lb))
