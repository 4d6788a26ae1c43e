-- `cmac::tag_into` meets its contract: both refusals come before the only store.
use mathlib.Core.Path.{◌≡◌}
use borrow.Author.Rules.{rules}
use lib.ListN.{length}
use Rattle.std.proofs.lemmas.Grind.{common_steps}
use native.Mathlib.Omega.{arith}
use Rattle.refusals.specs.Cases.{first_of}
use Rattle.refusals.specs.Numbers.{number_in}
use Rattle.refusals.specs.Shared.{key_cases}
use Rattle.refusals.proofs.Numbers.{number_some}
use Rattle.cmac.proofs.Answers.{writes_key, writes_23, writes_tag}
use Rattle.cmac.proofs.tag_into.Goals as goal

pub returns-in_err-schedule : goal.returns-in_err-schedule
returns-in_err-schedule c =
    let e : number_in c.from_residual.result ≡ first_of (key_cases (length c.args.key.now)) = grind (arith, common_steps) in
    let h : number_in c.from_residual.result ≡ 0 → ⊥ = grind (arith, common_steps, number_some) in
    writes_key _ _ _ _ e h

pub returns-then-tag-eq16 : goal.returns-then-tag-eq16
returns-then-tag-eq16 c =
    let p = c.in_ok-schedule.ensures in
    let sixteen : length c.tag_good.result ≡ 16 = search rules in
    writes_tag _ _ _ p.number _ _ _ c.if-tag-eq16.true sixteen p.schedule c.tag_good.ensures.tag c.store.ensures

pub returns-else-tag-eq16 : goal.returns-else-tag-eq16
returns-else-tag-eq16 c = writes_23 _ _ _ c.in_ok-schedule.ensures.number c.if-tag-eq16.false
