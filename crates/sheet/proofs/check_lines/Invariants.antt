-- `sheet::check_lines` meets its contract: the number of lines is tested first; the invariant says that no line before i has a case.
use Rattle.sheet.proofs.Cases.{Passed}
use Rattle.sheet.proofs.check_lines.Given as goal

abbrev pub invariant-loop-i : goal.invariant-loop-i
invariant-loop-i l = Passed l.sheet l.i
