use Rattle.std.proofs.Common.{refl}
use Rattle.record_write.proofs.OnOrder.Going.{goes_end}
use Rattle.record_write.proofs.order.instructions.note_case.Goals as goal

pub note_type-requires : goal.note_type-requires
note_type-requires c = record { ready = c.requires.ready; ty = c.requires.case.0 }

pub note_constant-requires : goal.note_constant-requires
note_constant-requires c = record { ready = c.in_ok-note_type.ensures.ready; constant = c.requires.case.1 }

pub returns : goal.returns
returns c = goes_end _ _ _ _ c.note_constant.result c.in_ok-note_type.ensures refl refl c.note_constant.ensures
