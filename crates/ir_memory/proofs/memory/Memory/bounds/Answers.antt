use Rattle.std.proofs.Common.{◌∙◌, ◌+◌, arith, ap, sym, Some, None, cond}
use Rattle.ir_memory.specs.Seen.{at}
use Rattle.ir_memory.proofs.Answering.{known-within}
use Rattle.ir_memory.proofs.Places.{bounds-kept, read-placed-kept}
use Rattle.ir_memory.proofs.memory.Memory.bounds.Goals as goal

pub overflow_add-result : goal.overflow_add-result
overflow_add-result c =
    let within = known-within (at c.self.inside.pieces) c.self.inside.kept c.args.pointer c.in_ok-index.index (rw (← c.self.view_is) at c.requires) c.in_ok-index.was in
    let placed = read-placed-kept (at c.self.inside.pieces) c.self.inside.kept c.self.inside.next c.in_ok-index.index _ c.self.invariant.2 within c.get-block.ensures c.if-block.true in
    omega (arith, placed)

pub returns-then-block-clause-value : goal.returns-then-block-clause-value
returns-then-block-clause-value c =
    let within = known-within (at c.self.inside.pieces) c.self.inside.kept c.args.pointer c.in_ok-index.index (rw (← c.self.view_is) at c.requires) c.in_ok-index.was in
    let b = c.get-block.result.now in
    let e = bounds-kept (at c.self.inside.pieces) c.self.inside.kept c.in_ok-index.index b within c.get-block.ensures ∙ ap (λ t. cond t (Some (b.start, b.start + b.size)) None) c.if-block.true in
    rw (c.in_ok-index.was, ← c.self.view_is) (sym e)

pub returns-then-block-clause-order : goal.returns-then-block-clause-order
returns-then-block-clause-order c =
    let within = known-within (at c.self.inside.pieces) c.self.inside.kept c.args.pointer c.in_ok-index.index (rw (← c.self.view_is) at c.requires) c.in_ok-index.was in
    let placed = read-placed-kept (at c.self.inside.pieces) c.self.inside.kept c.self.inside.next c.in_ok-index.index _ c.self.invariant.2 within c.get-block.ensures c.if-block.true in
    rw (← c.self.view_is) (placed.0, omega arith, omega (arith, placed))

pub returns-else-block-clause-value : goal.returns-else-block-clause-value
returns-else-block-clause-value c =
    let within = known-within (at c.self.inside.pieces) c.self.inside.kept c.args.pointer c.in_ok-index.index (rw (← c.self.view_is) at c.requires) c.in_ok-index.was in
    let b = c.get-block.result.now in
    let e = bounds-kept (at c.self.inside.pieces) c.self.inside.kept c.in_ok-index.index b within c.get-block.ensures ∙ ap (λ t. cond t (Some (b.start, b.start + b.size)) None) c.if-block.false in
    rw (c.in_ok-index.was, ← c.self.view_is) (sym e)
