-- `listing::put_entries` meets its contract: after i turns the lines of the first i entries are put.
use Rattle.listing.specs.Text.{job_lines}
use Rattle.listing.specs.Internal.{Puts}
use Rattle.listing.proofs.put_entries.Given as goal

abbrev pub invariant-loop-i : goal.invariant-loop-i
invariant-loop-i l = Puts l.initial.text (job_lines l.directory l.i) l.text
