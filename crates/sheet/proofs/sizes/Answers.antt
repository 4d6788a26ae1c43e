-- `sheet::sizes` meets its contract: a turn adds the length on its line. The check finds this too, but takes minutes to refuse an edit.
use Rattle.std.proofs.Common.{◌≡◌, ℕ, ◌+◌, sym, ap₂, ◌∙◌, arith}
use Rattle.sheet.proofs.LineLaws.{sizes_next}
use Rattle.sheet.proofs.sizes.Goals as goal

pub loop-i-preserved : goal.loop-i-preserved
loop-i-preserved c =
    let l = c.loop-i in
    let size = c.size-sum.ensures in (
      ap₂ (λ (a b : ℕ). a + b) l.invariant.0 size.0 ∙ sym (sizes_next c.args.sheet.now l.i),
      omega (arith, l.invariant.1, size.1),
    )
