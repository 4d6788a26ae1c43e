-- `cmac::tag_good` meets its contract: the chain over the blocks before the last, and then the last block.
use mathlib.Core.Path.{◌≡◌, refl}
use Prim.Native.Nat.{◌*◌, ◌/◌, ◌-◌}
use native.Mathlib.Omega.{arith}
use lib.ListN.{length}
use Rattle.cmac.proofs.Answers.{tags_good}
use Rattle.cmac.proofs.Generation.{chain_taken, mac_law}
use Rattle.cmac.proofs.tag_good.Goals as goal

pub unwrap-requires : goal.unwrap-requires
unwrap-requires c =
    let s = c.args.schedule in
    let whole : c.saturating_sub.result / 16 * 16 ≡ 16 * ((length c.args.run.now - 1) / 16) = omega arith in
    chain_taken c.args.run.now s.schedule s.good _ _ _ _ _ _ whole c.split_at.ensures.front c.chain.ensures

pub returns-clause-tag : goal.returns-clause-tag
returns-clause-tag c =
    let a = c.args in
    let cut = c.split_at.ensures in
    let end : c.saturating_sub.result / 16 * 16 ≡ 16 * ((length a.run.now - 1) / 16) = omega arith in
    let tag = rw c.unwrap.ensures at c.chain.ensures in
    mac_law a.run.now a.schedule.schedule a.schedule.good _ _ _ _ _ _ _ end cut.front cut.back c.filled.ensures refl tag

pub returns-clause-tagged : goal.returns-clause-tagged
returns-clause-tagged c = let a = c.args in tags_good _ _ _ a.schedule.good (returns-clause-tag c)
