-- `expansion::key_bytes` meets its contract: after i turns the first i keys are in their places.
use Rattle.std.proofs.Common.{◌≡◌, length, refl, ap, ◌∙◌, arith, rules}
use Rattle.blocks.specs.Blocks.{row}
use Rattle.expansion.specs.KeySchedule.{key_bytes}
use Rattle.expansion.proofs.KeyBytes.{put_turn}
use Rattle.expansion.proofs.key_bytes.Goals as goal

pub loop-i-init : goal.loop-i-init
unfolding key_bytes row
loop-i-init g c = λ rule same. (refl, λ j h. absurd (omega arith))

pub loop-i-preserved : goal.loop-i-preserved
loop-i-preserved g c =
    let few = c.requires.few in
    let test = c.loop-i-test.true in
    let l : length c.key.result ≡ 16 = search rules in
    λ rule same.
    put_turn rule c.loop-i.i _ c.loop-i.out c.key.result _ (omega arith) (omega arith) c.key.array_long l c.store.ensures
    (c.loop-i.invariant rule same) (same c.loop-i.i c.key.result test c.key.ensures)

pub returns : goal.returns
returns g c =
    λ rule same.
    let end : c.loop-i.i ≡ c.args.n = omega arith in
    (c.loop-i.invariant rule same).0 ∙ ap (key_bytes rule) end
