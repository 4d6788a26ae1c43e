-- `rounds::odd_round` meets its contract: its steps are the definition's.
use Rattle.circuit.specs.Circuit.{odd_round}
use Rattle.rounds.proofs.odd_round.Goals as goal

pub returns : goal.returns
unfolding odd_round
returns c = cc
