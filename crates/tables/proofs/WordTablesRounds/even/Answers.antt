-- An even round is the round whose layer begins with that box.
use Rattle.circuit.specs.Circuit.{even_round}
use Rattle.tables.proofs.WordTablesRounds.even.Goals as goal

pub returns : goal.returns
unfolding even_round
returns c = c.round.ensures
