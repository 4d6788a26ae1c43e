-- `runs::encrypt` meets its contract: two rounds a turn, and at the end the definition's last two.
use Rattle.std.proofs.Common.{◌≡◌, ◌+◌, ◌-◌, ◌*◌, ℕ, ap, subst, ◌∙◌, arith}
use Rattle.refusals.proofs.Shared.{counted}
use Rattle.boxes.specs.Boxes.{box}
use Rattle.circuit.specs.Circuit.{key_at, aria}
use Rattle.circuit.proofs.Walking.{Walking, walking_start, walking_turn, walking_done}
use Rattle.runs.proofs.encrypt.Goals as goal

pub overflow_sub-pair-end : goal.overflow_sub-pair-end
overflow_sub-pair-end g c = let k = counted _ c.args.good.now.good in let h = k.some in omega arith

pub loop-pair-init : goal.loop-pair-init
loop-pair-init g c = walking_start box _ _ _ _ c.args.good.now.good c.enter-x.ensures

pub loop-pair-preserved : goal.loop-pair-preserved
loop-pair-preserved g c =
    let s = c.args.good.now.schedule in
    let k = counted s.rounds c.args.good.now.good in
    let next : 2 * c.loop-pair.pair + 2 ≡ 2 * (c.loop-pair.pair + 1) = omega arith in
    subst (λ (i : ℕ). Walking box s.rounds s.keys c.args.block i (g.E.Rounds.block c.even-x.result)) next
    (walking_turn box _ _ _ _ _ _ _ _ c.loop-pair.invariant c.round_key.ensures c.round_key-in-loop-pair.ensures c.odd-y.ensures _
    (omega arith) c.even-x.ensures)

pub overflow_sub-n : goal.overflow_sub-n
overflow_sub-n g c = let k = counted _ c.args.good.now.good in omega arith

pub overflow_sub-n-2 : goal.overflow_sub-n-2
overflow_sub-n-2 g c = let k = counted _ c.args.good.now.good in omega arith

pub returns : goal.returns
unfolding aria
returns g c =
    let s = c.args.good.now.schedule in
    let k = counted s.rounds c.args.good.now.good in
    let w = c.loop-pair.invariant in
    let i : ℕ = 2 * c.loop-pair.pair in
    let one : s.rounds - 2 ≡ i = omega arith in
    let two : s.rounds - 1 ≡ i + 1 = omega arith in
    let three : s.rounds ≡ i + 2 = omega arith in
    walking_done box _ _ _ _ _ _ _ _ w (c.round_key-2.ensures ∙ ap (key_at s.keys) one) (c.round_key-3.ensures ∙ ap (key_at s.keys) two)
    c.odd-y-2.ensures _ _ (omega arith) (c.round_key-4.ensures ∙ ap (key_at s.keys) three) c.last.ensures
