use Rattle.std.proofs.Common.{sym, ap, subst}
use Rattle.record_write.proofs.OnOrder.Going.{goes_none, goes_as, goes_same}
use Rattle.record_write.specs.Order.Written.{in_count}
use Rattle.record_write.specs.Order.Known.{KnowsCount}
use Rattle.record_write.proofs.order.instructions.note_count.Goals as goal

pub note_operand-requires : goal.note_operand-requires
note_operand-requires c = record { ready = c.requires.ready; operand = subst (KnowsCount c.args.arena.now) c.in-Some.is c.requires.count }

pub returns-in-Some : goal.returns-in-Some
returns-in-Some c = goes_as c.args.arena.now c.args.order.now _ _ _ c.note_operand.result (ap (in_count c.args.arena.now) (sym c.in-Some.is)) c.note_operand.ensures

pub returns-in-None : goal.returns-in-None
returns-in-None c = goes_same (ap (in_count c.args.arena.now) (sym c.in-None.is)) (goes_none c.requires.ready)
