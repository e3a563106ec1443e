use Rattle.std.proofs.Common.{flat_map, sym, ap, subst}
use Rattle.record_write.proofs.OnOrder.Going.{goes_none, goes_end, goes_as, goes_same}
use Rattle.record_write.specs.Order.Written.{in_case, in_ending}
use Rattle.record_write.specs.Order.Known.{KnowsEnding}
use Rattle.record_write.proofs.order.instructions.note_ending.Goals as goal

pub note_operand-requires : goal.note_operand-requires
note_operand-requires c = record { ready = c.requires.ready; operand = subst (KnowsEnding c.args.arena.now) c.in-Return.is c.requires.ending }

pub returns-in-Return : goal.returns-in-Return
returns-in-Return c = goes_as c.args.arena.now c.args.order.now _ _ _ c.note_operand.result (ap (in_ending c.args.arena.now) (sym c.in-Return.is)) c.note_operand.ensures

pub note_operand-requires-in-Branch : goal.note_operand-requires-in-Branch
note_operand-requires-in-Branch c = record { ready = c.requires.ready; operand = subst (KnowsEnding c.args.arena.now) c.in-Branch.is c.requires.ending }

pub returns-in-Branch : goal.returns-in-Branch
returns-in-Branch c = goes_as c.args.arena.now c.args.order.now _ _ _ c.note_operand-in-Branch.result (ap (in_ending c.args.arena.now) (sym c.in-Branch.is)) c.note_operand-in-Branch.ensures

pub note_operand-requires-in-Switch : goal.note_operand-requires-in-Switch
note_operand-requires-in-Switch c =
    let known = subst (KnowsEnding c.args.arena.now) c.in-Switch.is c.requires.ending in
    record { ready = c.requires.ready; operand = known.0 }

pub note_cases-requires : goal.note_cases-requires
note_cases-requires c =
    let known = subst (KnowsEnding c.args.arena.now) c.in-Switch.is c.requires.ending in
    record { ready = c.in_ok-note_operand-in-Switch.ensures.ready; cases = rw c.as_slice.ensures known.1 }

pub returns-in_ok-note_operand-in-Switch : goal.returns-in_ok-note_operand-in-Switch
returns-in_ok-note_operand-in-Switch c = goes_end _ _ _ _ c.note_cases.result c.in_ok-note_operand-in-Switch.ensures (ap (flat_map (in_case c.args.arena.now)) c.as_slice.ensures) (ap (in_ending c.args.arena.now) (sym c.in-Switch.is)) c.note_cases.ensures

pub returns-in-ReturnVoid : goal.returns-in-ReturnVoid
returns-in-ReturnVoid c = goes_same (ap (in_ending c.args.arena.now) (sym c.in-ReturnVoid.is)) (goes_none c.requires.ready)

pub returns-in-Jump : goal.returns-in-Jump
returns-in-Jump c = goes_same (ap (in_ending c.args.arena.now) (sym c.in-Jump.is)) (goes_none c.requires.ready)

pub returns-in-Unreachable : goal.returns-in-Unreachable
returns-in-Unreachable c = goes_same (ap (in_ending c.args.arena.now) (sym c.in-Unreachable.is)) (goes_none c.requires.ready)
