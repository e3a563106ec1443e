use Rattle.std.proofs.Common.{◌∷◌, refl, sym, ap}
use Rattle.type_table.specs.Types.{tree}
use Rattle.record_write.proofs.OnOrder.KnownParts.{initialiser_known}
use Rattle.record_write.proofs.OnOrder.Going.{goes_end, goes_same}
use Rattle.record_write.specs.Order.Written.{in_initialiser}
use Rattle.record_write.proofs.order.entries.note_variable.Goals as goal

pub note_type-requires : goal.note_type-requires
note_type-requires c = record { ready = c.requires.ready; ty = c.requires.variable.ty_known }

pub note_constant-requires : goal.note_constant-requires
note_constant-requires c = record { ready = c.in_ok-note_type.ensures.ready; constant = initialiser_known c.args.arena.now c.args.variable.now c.requires.variable c.in-Some.constant c.in-Some.is }

pub returns-in-Some : goal.returns-in-Some
returns-in-Some c = goes_end _ _ _ _ c.note_constant.result c.in_ok-note_type.ensures refl (ap (λ o. tree c.args.arena.now.table c.args.variable.now.ty ∷ in_initialiser c.args.arena.now o) (sym c.in-Some.is)) c.note_constant.ensures

pub returns-in-None : goal.returns-in-None
returns-in-None c = goes_same (ap (λ o. tree c.args.arena.now.table c.args.variable.now.ty ∷ in_initialiser c.args.arena.now o) (sym c.in-None.is)) c.in_ok-note_type.ensures
