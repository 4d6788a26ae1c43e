-- `admission::key_check` meets its contract: a run of one block is the block through the cipher, and its first eight bytes are copied.
use mathlib.Core.Path.{refl, sym, ap, ◌∙◌}
use mathlib.Core.List.{List}
use Prim.Native.Nat.{ℕ}
use native.Mathlib.Omega.{arith}
use lib.ListN.{replicate}
use Rattle.octets.specs.Parts.{overwritten}
use Rattle.octets.proofs.Parts.{overwritten_cut}
use Rattle.circuit.proofs.Runs.{length_encrypted, one_block, number_0}
use Rattle.cmac.proofs.Generation.{none_refused}
use Rattle.admission.specs.Check.{key_check}
use Rattle.admission.proofs.KeyCheck.{check_given}
use Rattle.admission.proofs.key_check.Goals as goal

pub unwrap-requires : goal.unwrap-requires
unwrap-requires c = none_refused c.run.result (c.run.ensures.number ∙ number_0 _ 16 c.args.schedule.good refl)

pub returns-clause-check : goal.returns-clause-check
unfolding key_check
returns-clause-check c =
    c.copy.ensures
    ∙ ap (λ (b : List ℕ). overwritten b (replicate 8 0)) (one_block _ _ _ _ c.args.schedule.good refl c.run.ensures)
    ∙ overwritten_cut _ (replicate 8 0) (omega (arith, length_encrypted c.args.schedule.schedule (replicate 16 255) refl))

pub returns-clause-under : goal.returns-clause-under
returns-clause-under c = returns-clause-check c ∙ sym (check_given c.args.schedule.schedule c.args.schedule.good)
