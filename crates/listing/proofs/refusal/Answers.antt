-- `listing::refusal` meets its contract: a number of 32 bits has ten digits at most, so the line fits.
use Prim.Native.Nat.{ℕ}
use native.Mathlib.Omega.{arith}
use Rattle.listing.specs.Text.{refused_word, number_line}
use Rattle.listing.proofs.Fits.{number_line_short, puts_held}
use Rattle.listing.proofs.refusal.Goals as goal

pub returns : goal.returns
returns c =
    let n : ℕ = c.args.n in
    puts_held (number_line refused_word n) _ _ _ _ c.new-text.ensures (omega (arith, number_line_short refused_word 9 n (omega arith)))
    c.put_line.ensures c.deref.ensures.0 c.of.ensures
