-- An odd round is the round whose layer begins with that box.
use Rattle.circuit.specs.Circuit.{odd_round}
use Rattle.tables.proofs.WordTablesRounds.odd.Goals as goal

pub returns : goal.returns
unfolding odd_round
returns c = c.round.ensures
