use Rattle.record_write.proofs.OnOrder.Going.{known_types, goes_types}
use Rattle.record_write.proofs.order.constants.note_types.Goals as goal

pub note_all-requires : goal.note_all-requires
note_all-requires c = known_types c.args.arena.now c.args.order.now c.requires.ready c.args.types.now c.requires.types

pub returns : goal.returns
returns c = goes_types c.args.arena.now c.args.order.now c.requires.ready _ c.args.types.now c.in_ok-note_all.ensures
