-- `sealing::GoodSheet::schedule` meets its contract: of a key file that is long enough the key is not refused.
use Rattle.std.proofs.Common.{◌≡◌, sym, ap, ◌∙◌, arith, length}
use Rattle.std.proofs.lemmas.Grind.{common_steps}
use Rattle.refusals.specs.Shared.{good_key}
use Rattle.refusals.proofs.Shared.{key_0}
use Rattle.sheet.specs.Sheet.{key_size_on}
use Rattle.sealing.proofs.Cases.{key_file_1, key_file_none}
use Rattle.sealing.proofs.GoodSheet.schedule.Goals as goal

pub returns-in_err-key-clause-number : goal.returns-in_err-key-clause-number
returns-in_err-key-clause-number c =
    let short = rw c.in_err-key.ensures.ok_part at c.get.ensures.lookup.0 in
    let told = rw c.in_err-key.ensures.ok_part at c.in_err-key.ensures.value in
    grind (arith, common_steps, key_file_1 (length c.args.key_file.now) (key_size_on c.args.self.now.sheet.now))

pub returns-clause-number : goal.returns-clause-number
returns-clause-number c =
    let found = rw c.in_ok-key.ensures.ok_part at c.get.ensures.lookup.0 in
    let size : length c.in_ok-key.key.now ≡ key_size_on c.args.self.now.sheet.now = omega (arith, c.key_size-size.ensures.0) in
    c.prepare.ensures.number
    ∙ key_0 _ (ap good_key size ∙ c.args.self.now.sized)
    ∙ sym (key_file_none _ _ (omega (arith, c.key_size-size.ensures.0)))
