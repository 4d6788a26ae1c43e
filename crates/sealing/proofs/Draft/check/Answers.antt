-- `sealing::Draft::check` meets its contract: the lines are asked first, then the lengths, and what is not refused has the facts.
use Rattle.std.proofs.Common.{sym, ◌∙◌, arith, length}
use Rattle.std.proofs.lemmas.Grind.{common_steps}
use Rattle.refusals.proofs.Numbers.{number_some}
use Rattle.sheet.proofs.Cases.{lines_good}
use Rattle.sealing.proofs.Ways.{rest_at_lines, whole_on, rest_at_lengths, good, rest_small}
use Rattle.sealing.proofs.Draft.check.Goals as goal

pub returns-in_err-check_lines-clause-number : goal.returns-in_err-check_lines-clause-number
returns-in_err-check_lines-clause-number c =
    let a = c.args in
    let told = rest_at_lines a.layout a.good.sheet.now (length a.plain.now) a.room _ c.in_err-check_lines.ensures (number_some _) in
    grind (arith, common_steps, told)

pub overflow_cast-count : goal.overflow_cast-count
overflow_cast-count c =
    let few = (lines_good c.args.good.sheet.now (sym c.in_ok-check_lines.ensures)).few in
    omega (arith, c.lines-count.ensures)

pub returns-in_err-check_length-clause-number : goal.returns-in_err-check_length-clause-number
returns-in_err-check_length-clause-number c =
    let a = c.args in
    let told = c.in_err-check_length.ensures
    ∙ rest_at_lengths a.layout a.good.sheet.now (length a.plain.now) a.room _ _ _ c.lines-count.ensures c.sizes-size.ensures.0
    c.tag_size.ensures.0 (sym c.in_ok-check_lines.ensures) in
    grind (arith, common_steps, told)

pub invariant_of-result : goal.invariant_of-result
invariant_of-result c =
    let a = c.args in
    let none = sym (c.in_ok-check_length.ensures
    ∙ rest_at_lengths a.layout a.good.sheet.now (length a.plain.now) a.room _ _ _ c.lines-count.ensures c.sizes-size.ensures.0
    c.tag_size.ensures.0 (sym c.in_ok-check_lines.ensures)) in
    let g = good a.layout a.good.sheet.now (length a.plain.now) a.room none in
    record {
      stated =
          whole_on a.layout a.good.sheet.now (length a.plain.now) a.room _ _ _ c.lines-count.ensures c.sizes-size.ensures.0
          c.tag_size.ensures.0;
      headed = a.good.headed;
      few = g.lined.few;
      exact = g.fits.exact;
      small = rest_small a.layout a.good.sheet.now (length a.plain.now) a.room none;
    }

pub returns-clause-number : goal.returns-clause-number
returns-clause-number c =
    let a = c.args in
    c.in_ok-check_length.ensures
    ∙ rest_at_lengths a.layout a.good.sheet.now (length a.plain.now) a.room _ _ _ c.lines-count.ensures c.sizes-size.ensures.0
    c.tag_size.ensures.0 (sym c.in_ok-check_lines.ensures)
