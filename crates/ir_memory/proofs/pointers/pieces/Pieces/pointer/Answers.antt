use Rattle.std.proofs.Common.{sym, arith}
use Rattle.std.specs.Ordering.{nat_cmp}
use Rattle.std.specs.BTreeMap as tree
use Rattle.ir_memory.proofs.OnPointers.Seen.{no_pointer_there, no_slot_no_pointer, pointer_there}
use Rattle.ir_memory.proofs.pointers.pieces.Pieces.pointer.Goals as goal

pub returns-in-Some-clause-some : goal.returns-in-Some-clause-some
returns-in-Some-clause-some c = pointer_there (tree.get nat_cmp c.args.self.now.slots) c.args.address c.in-Some.slot.now c.pointer.result (omega arith) (sym c.in-Some.ensures.value) c.pointer.ensures.some

pub returns-in-Some-clause-none : goal.returns-in-Some-clause-none
returns-in-Some-clause-none c = λ whole. no_pointer_there (tree.get nat_cmp c.args.self.now.slots) c.args.address c.in-Some.slot.now c.pointer.result whole (sym c.in-Some.ensures.value) c.pointer.ensures.none

pub returns-in-None-clause-none : goal.returns-in-None-clause-none
returns-in-None-clause-none c = λ whole p. no_slot_no_pointer (tree.get nat_cmp c.args.self.now.slots) c.args.address p (sym c.in-None.ensures.value)
