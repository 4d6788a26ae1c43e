-- `runs::encrypt_blocks` meets its contract: the blocks before block k are done, those from there on as they were.
use Rattle.std.proofs.Common.{◌≡◌, ◌+◌, ◌-◌, ◌*◌, ◌<◌, ℕ, List, ◌++◌, length, take, drop, subst, arith, rules}
use Rattle.blocks.proofs.Blocks.{through}
use Rattle.blocks.proofs.Running.{Running, running_part, running_turn, running_done}
use Rattle.circuit.specs.Run.{encrypted}
use Rattle.runs.proofs.encrypt_blocks.Goals as goal

pub loop-k-preserved : goal.loop-k-preserved
loop-k-preserved g c =
    let f = encrypted c.args.good.now.schedule in
    let at : ℕ = 16 * c.loop-k.k in
    let r = c.loop-k.invariant in
    let next : at + 16 ≡ 16 * (c.loop-k.k + 1) = omega arith in
    let left : at < length c.loop-k.run = omega arith in
    let sixteen : length c.encrypt-block.result ≡ 16 = search rules in
    let part = running_part f c.args.run.now c.loop-k.run at r left c.requires in
    let done = through f _ _ _ _ part sixteen c.load.ensures c.encrypt-block.ensures c.store.ensures in
    let after : List ℕ = take at c.loop-k.run ++ (c.store.new.part ++ drop (at + 16 - at) (drop at c.loop-k.run)) in
    subst (λ (i : ℕ). Running f c.args.run.now after i) next
    (running_turn f _ _ c.store.new.part at r left c.requires c.store.auto.part done)

pub returns : goal.returns
returns g c = running_done _ _ _ _ c.loop-k.invariant (let r = c.loop-k.invariant in omega arith)
