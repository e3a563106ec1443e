use Rattle.std.proofs.Common.{◌≡◌, length, slice_get, Some, arith}
use Rattle.module_arena.specs.Known.{KnowsFunction}
use Rattle.record_write.proofs.OnOrder.KnownParts.{entry_known}
use Rattle.record_write.proofs.OnOrder.Going.{goes_none, goes_at, goes_all}
use Rattle.record_write.specs.Order.Written.{in_function}
use Rattle.record_write.proofs.order.entries.note_functions.Goals as goal

pub loop-number-init : goal.loop-number-init
loop-number-init c = goes_none c.requires

pub note_function-requires : goal.note_function-requires
note_function-requires c =
    let at : slice_get c.args.arena.now.functions c.loop-number.number ≡ Some c.function.result.now = cc in
    record { ready = c.loop-number.invariant.ready; function = entry_known (KnowsFunction (length c.args.arena.now.table.types) (length c.args.arena.now.constants)) c.args.arena.now.functions c.loop-number.number c.function.result.now at c.variable_count-count.ensures.good.functions }

pub loop-number-preserved : goal.loop-number-preserved
loop-number-preserved c =
    let at : slice_get c.args.arena.now.functions c.loop-number.number ≡ Some c.function.result.now = cc in
    goes_at (in_function c.args.arena.now) c.args.arena.now.functions c.loop-number.number c.function.result.now at c.loop-number.invariant c.in_ok-note_function.ensures

pub returns : goal.returns
returns c = goes_all (in_function c.args.arena.now) c.args.arena.now.functions c.loop-number.number (omega arith) c.loop-number.invariant
