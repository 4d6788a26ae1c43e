-- `rounds::last_round` meets its contract: its steps are the definition's.
use Rattle.circuit.specs.Circuit.{last_round}
use Rattle.rounds.proofs.last_round.Goals as goal

pub returns : goal.returns
unfolding last_round
returns c = cc
