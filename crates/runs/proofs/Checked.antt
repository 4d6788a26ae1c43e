-- What the check of a run tells: refused, it leaves what it was lent, and else the round count is good and the blocks are whole.
-- Assumes nothing.
use Rattle.refusals.proofs.Numbers.{refused_leaves}
use Rattle.circuit.proofs.Runs.{done_rounds, done_whole}

pub ruleset checked = (refused_leaves, done_rounds, done_whole)
