use Rattle.std.proofs.Common.{◌∙◌}
use Rattle.record_write.proofs.OnOrder.Ordering.{order_is}
use Rattle.record_write.proofs.OnOrder.Going.{ready_begun}
use Rattle.record_write.proofs.order.entries.type_order.Goals as goal

pub note_structs-requires : goal.note_structs-requires
note_structs-requires c = ready_begun c.args.arena.now _ (c.in_ok-order.ensures.types ∙ c.types.ensures) c.in_ok-order.ensures.gone

pub returns : goal.returns
returns c = record {
  types = c.in_ok-note_aliases.ensures.ready.types;
  listed = order_is c.args.arena.now c.in_ok-order.ensures.none c.in_ok-note_structs.ensures c.in_ok-note_variables.ensures c.in_ok-note_functions.ensures c.in_ok-note_aliases.ensures;
}
