-- `sheet::line` meets its contract: past the last whole line the part is empty, before it the twelve bytes lie within the sheet. The check
-- finds this too, but takes minutes to refuse its edits.
use mathlib.Core.Path.{sym, ◌∙◌}
use native.Mathlib.Omega.{arith}
use Rattle.sheet.proofs.LineLaws.{line_inside, line_none}
use Rattle.sheet.proofs.line.Goals as goal

pub returns-then-i-lines : goal.returns-then-i-lines
returns-then-i-lines c =
    let inside = c.if-i-lines.true in
    record {
      bytes = c.part.ensures.bytes ∙ sym (line_inside _ _ (omega (arith, c.lines.ensures)));
      place = λ l. c.part.ensures.place (omega arith);
    }

pub returns-else-i-lines : goal.returns-else-i-lines
returns-else-i-lines c =
    let none = c.if-i-lines.false in
    record {
      bytes = c.part-else-i-lines.ensures.bytes ∙ sym (line_none _ _ (omega (arith, c.lines.ensures)));
      place = λ l. absurd (omega (arith, c.lines.ensures));
    }
