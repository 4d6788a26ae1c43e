-- `rounds::even_round` meets its contract: its steps are the definition's.
use Rattle.circuit.specs.Circuit.{even_round}
use Rattle.rounds.proofs.even_round.Goals as goal

pub returns : goal.returns
unfolding even_round
returns c = cc
