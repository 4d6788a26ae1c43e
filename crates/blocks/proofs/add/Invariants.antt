-- `blocks::add` meets its contract: after j turns the first j bytes are the sums; the loop ends with the bytes or with the part.
use mathlib.Core.Path.{◌≡◌}
use Rattle.octets.proofs.Fill.{filled}
use Rattle.blocks.specs.Xor.{xor_block}
use Rattle.blocks.proofs.add.Given as goal

abbrev pub invariant-loop-j : goal.invariant-loop-j
invariant-loop-j l = l.part ≡ filled (xor_block l.initial.part l.bytes) l.initial.part l.j
