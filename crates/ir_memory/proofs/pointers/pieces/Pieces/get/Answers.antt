use Rattle.std.proofs.Common.{◌/◌, Some, refl, sym}
use Rattle.std.specs.Ordering.{nat_cmp}
use Rattle.std.specs.BTreeMap as tree
use Rattle.ir_memory.proofs.OnPointers.Seen.{at_here, at_none}
use Rattle.ir_memory.proofs.pointers.pieces.Pieces.get.Goals as goal

pub returns-in-Some : goal.returns-in-Some
returns-in-Some c =
    let a = c.args.address in
    sym (at_here (tree.get nat_cmp c.args.self.now.slots) a (a / 8) (Some c.in-Some.slot.now) refl (sym c.in-Some.ensures.value))

pub returns-in-None : goal.returns-in-None
returns-in-None c =
    let a = c.args.address in
    sym (at_none (tree.get nat_cmp c.args.self.now.slots) a (a / 8) refl (sym c.in-None.ensures.value))
