-- `listing::jobs` meets its contract: the header, then the lines, which fit.
use mathlib.Core.List.{List, ◌++◌}
use Prim.Native.Nat.{ℕ, ◌≤◌}
use native.Mathlib.Omega.{arith}
use lib.ListN.{length, length-append}
use Rattle.directory.specs.Entries.{entries}
use Rattle.listing.specs.Text.{jobs_word, number_line, job_lines, text_of}
use Rattle.listing.proofs.Puts.{puts_then}
use Rattle.listing.proofs.Fits.{number_line_short, lines_short, puts_held}
use Rattle.listing.proofs.jobs.Goals as goal

pub returns : goal.returns
unfolding text_of
returns c =
    let few = c.requires.few in
    let d : List ℕ = c.args.directory.now in
    let n : ℕ = entries d in
    let fits : length (number_line jobs_word n ++ job_lines d n) ≤ 1352 =
    simp length-append (omega (arith, number_line_short jobs_word 1 n (omega arith), lines_short d c.requires n (omega arith)))
    in
    puts_held (number_line jobs_word n ++ job_lines d n) _ _ _ _ c.new-text.ensures fits
    (puts_then c.put_line.ensures c.put_entries.ensures) c.deref.ensures.0 c.of.ensures
