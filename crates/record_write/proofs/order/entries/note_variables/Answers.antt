use Rattle.std.proofs.Common.{◌≡◌, length, slice_get, Some, arith}
use Rattle.module_arena.specs.Known.{KnowsVariable}
use Rattle.record_write.proofs.OnOrder.KnownParts.{entry_known}
use Rattle.record_write.proofs.OnOrder.Going.{goes_none, goes_at, goes_all}
use Rattle.record_write.specs.Order.Written.{in_variable}
use Rattle.record_write.proofs.order.entries.note_variables.Goals as goal

pub loop-number-init : goal.loop-number-init
loop-number-init c = goes_none c.requires

pub note_variable-requires : goal.note_variable-requires
note_variable-requires c =
    let at : slice_get c.args.arena.now.variables c.loop-number.number ≡ Some c.variable.result.now = cc in
    record { ready = c.loop-number.invariant.ready; variable = entry_known (KnowsVariable (length c.args.arena.now.table.types) (length c.args.arena.now.constants)) c.args.arena.now.variables c.loop-number.number c.variable.result.now at c.variable_count-number-end.ensures.good.variables }

pub loop-number-preserved : goal.loop-number-preserved
loop-number-preserved c =
    let at : slice_get c.args.arena.now.variables c.loop-number.number ≡ Some c.variable.result.now = cc in
    goes_at (in_variable c.args.arena.now) c.args.arena.now.variables c.loop-number.number c.variable.result.now at c.loop-number.invariant c.in_ok-note_variable.ensures

pub returns : goal.returns
returns c = goes_all (in_variable c.args.arena.now) c.args.arena.now.variables c.loop-number.number (omega arith) c.loop-number.invariant
