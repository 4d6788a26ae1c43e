-- `sheet::check_lines` meets its contract: the number of lines is tested first; the invariant says that no line before i has a case.
use mathlib.Core.Path.{sym}
use native.Mathlib.Omega.{arith}
use Rattle.std.proofs.lemmas.Grind.{common_steps}
use Rattle.sheet.proofs.Cases.{line_refused, lines_passed}
use Rattle.sheet.proofs.check_lines.Goals as goal

pub returns-in_err-check_line : goal.returns-in_err-check_line
returns-in_err-check_line c =
    let told = line_refused _ c.loop-i.i c.in_err-check_line.field-0.0 (omega arith) c.loop-i.invariant (omega arith)
    c.in_err-check_line.ensures in
    grind (arith, common_steps, told)

pub returns : goal.returns
returns c = sym (lines_passed _ (omega arith) (λ k l. c.loop-i.invariant k (omega arith)))
