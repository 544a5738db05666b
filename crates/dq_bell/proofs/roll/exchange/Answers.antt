use Rattle.dq_bell.proofs.Taken.{exchanges, exchanged_roll}
use Rattle.dq_bell.proofs.roll.exchange.Goals as goal

pub returns-clause-roll : goal.returns-clause-roll
returns-clause-roll c = exchanged_roll c.args.indexes.now c.args.places.now c.args.one c.args.other c.requires.roll c.requires.one_in c.requires.other_in

pub returns-clause-exchanged : goal.returns-clause-exchanged
returns-clause-exchanged c = exchanges c.args.indexes.now c.args.places.now c.args.one c.args.other c.requires.roll c.requires.one_in c.requires.other_in
