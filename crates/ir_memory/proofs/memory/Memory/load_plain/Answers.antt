use Rattle.std.proofs.Common.{arith}
use Rattle.ir_memory.specs.Seen.{at}
use Rattle.ir_memory.proofs.Plain.{loads-there}
use Rattle.ir_memory.proofs.Writes.{room-bytes, room-small, room-unmixed}
use Rattle.ir_memory.proofs.memory.Memory.load_plain.Goals as goal

pub overflow_add-from : goal.overflow_add-from
overflow_add-from c =
    let self = c.self.inside in
    let small = room-small (at self.pieces) self.kept self.next c.in_ok-place.place c.args.count c.get-block.result.now c.self.invariant.2 c.in_ok-place.ensures.room c.get-block.ensures in
    omega (arith, small)

pub overflow_add-from-2 : goal.overflow_add-from-2
overflow_add-from-2 c =
    let self = c.self.inside in
    let small = room-small (at self.pieces) self.kept self.next c.in_ok-place.place c.args.count c.get-block.result.now c.self.invariant.2 c.in_ok-place.ensures.room c.get-block.ensures in
    omega (arith, small)

pub has_pieces-requires-clause-unmixed : goal.has_pieces-requires-clause-unmixed
has_pieces-requires-clause-unmixed c =
    let self = c.self.inside in
    room-unmixed (at self.pieces) self.kept self.next c.in_ok-place.place c.args.count c.get-block.result.now c.self.invariant.2 c.in_ok-place.ensures.room c.get-block.ensures

pub number-requires-clause-within : goal.number-requires-clause-within
number-requires-clause-within c =
    let self = c.self.inside in
    room-bytes (at self.pieces) self.kept self.next c.in_ok-place.place c.args.count c.get-block.result.now c.self.invariant.2 c.in_ok-place.ensures.room c.get-block.ensures

pub returns-clause-value : goal.returns-clause-value
returns-clause-value c =
    let self = c.self.inside in
    rw (← c.self.view_is)
    (loads-there (at self.pieces) self.kept self.next self.sealed c.in_ok-place.place c.get-block.result.now c.args.count c.args.align c.args.pointer c.self.invariant.2 c.in_ok-place.ensures.room c.get-block.ensures
    (c.has_pieces.ensures.none c.if-has_pieces.false) c.number.result c.number.ensures.value c.number.ensures.fits (c.in_ok-place.ensures.value self.next self.sealed))
