use Rattle.std.proofs.Common.{length, sym, ap, subst}
use Rattle.type_table.specs.Types.{KnowsBody}
use Rattle.std.specs.Option.{option_copied}
use Rattle.record_write.proofs.OnOrder.Going.{goes_none, goes_as, goes_same}
use Rattle.record_write.specs.Order.Written.{in_struct_body}
use Rattle.record_write.proofs.order.entries.note_fields.Goals as goal

pub note_body-requires : goal.note_body-requires
note_body-requires c = record { ready = c.requires.ready; body = subst (λ o. KnowsBody (length c.args.arena.now.table.types) (option_copied o)) c.in-Some.is c.requires.body }

pub returns-in-Some : goal.returns-in-Some
returns-in-Some c = goes_as c.args.arena.now c.args.order.now _ _ _ c.note_body.result (ap (λ o. in_struct_body c.args.arena.now.table (option_copied o)) (sym c.in-Some.is)) c.note_body.ensures

pub returns-in-None : goal.returns-in-None
returns-in-None c = goes_same (ap (λ o. in_struct_body c.args.arena.now.table (option_copied o)) (sym c.in-None.is)) (goes_none c.requires.ready)
