use Rattle.record_write.proofs.OnOrder.Going.{known_type, goes_type}
use Rattle.record_write.proofs.order.constants.note_type.Goals as goal

pub note-requires : goal.note-requires
note-requires c = known_type c.args.arena.now c.args.order.now c.requires.ready c.args.ty c.requires.ty

pub returns : goal.returns
returns c = goes_type c.args.arena.now c.args.order.now c.requires.ready _ c.args.ty c.in_ok-note.ensures
