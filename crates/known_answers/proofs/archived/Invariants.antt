-- `known_answers::archived` is safe and ends: the measure is the number of entries that are left.
use Prim.Native.Nat.{◌≤◌, ◌-◌}
use Rattle.known_answers.proofs.archived.Given as goal

abbrev pub invariant-loop-i : goal.invariant-loop-i
invariant-loop-i l = l.i ≤ l.jobs

abbrev pub decreases-loop-i : goal.decreases-loop-i
decreases-loop-i l = l.jobs - l.i
