use Rattle.std.proofs.Common.{sym, ap, subst}
use Rattle.record_write.proofs.OnOrder.Going.{goes_none, goes_as, goes_same}
use Rattle.record_write.specs.Order.Written.{in_value, KnowsValue}
use Rattle.record_write.proofs.order.constants.note_value.Goals as goal

pub note_constant-requires : goal.note_constant-requires
note_constant-requires c = record { ready = c.requires.ready; constant = subst (KnowsValue c.args.arena.now) c.in-Known.is c.requires.value }

pub returns-in-Known : goal.returns-in-Known
returns-in-Known c = goes_as c.args.arena.now c.args.order.now _ _ _ c.note_constant.result (ap (in_value c.args.arena.now) (sym c.in-Known.is)) c.note_constant.ensures

pub returns-in-Local : goal.returns-in-Local
returns-in-Local c = goes_same (ap (in_value c.args.arena.now) (sym c.in-Local.is)) (goes_none c.requires.ready)
