use Rattle.std.proofs.Common.{◌%◌, ◌∙◌, Some, None, refl, sym, arith}
use Rattle.std.specs.Ordering.{nat_cmp}
use Rattle.std.specs.BTreeMap as tree
use Rattle.ir_memory.proofs.OnPointers.Seen.{at_here, at_none, chosen, passed}
use Rattle.ir_memory.proofs.pointers.slots.leave.Goals as goal

pub returns-then-is_clear-clause-here : goal.returns-then-is_clear-clause-here
returns-then-is_clear-clause-here c = λ q e.
    let a = c.args in
    at_none (tree.get nat_cmp c.take.new.slots) q a.number e (c.take.ensures a.number ∙ chosen a.number a.number None (tree.get nat_cmp a.slots.now a.number) refl)
    ∙ sym (c.is_clear.ensures.none c.if-is_clear.true (q % 8) (omega arith))

pub returns-clause-here : goal.returns-clause-here
returns-clause-here c = λ q e.
    let a = c.args in
    at_here (tree.get nat_cmp c.change.new.slots) q a.number (Some a.left) e (c.change.ensures a.number ∙ chosen a.number a.number (Some a.left) (tree.get nat_cmp a.slots.now a.number) refl)

pub returns-clause-others : goal.returns-clause-others
returns-clause-others c = λ s n. c.change.ensures s ∙ passed s c.args.number (Some c.args.left) (tree.get nat_cmp c.args.slots.now s) n
