use Rattle.std.proofs.Common.{ℕ, ◌∙◌, Option, None, refl, sym, subst, arith}
use Rattle.std.specs.Prelude.{if◌then◌else◌, IsSome}
use Rattle.std.specs.Ordering.{nat_cmp}
use Rattle.std.specs.BTreeMap as tree
use Rattle.ir_memory.specs.declared.pointers.piece.PointerPiece.{PointerPiece}
use Rattle.ir_memory.specs.Pointers.Pieces.{at_slots, is_within}
use Rattle.ir_memory.proofs.OnPointers.Seen.{at_none, chosen, inside, shown_here}
use Rattle.ir_memory.proofs.pointers.slots.hide.Goals as goal

pub leave-requires : goal.leave-requires
leave-requires c = subst IsSome (sym c.requires.there) refl

pub returns-then-number-to-clause-here : goal.returns-then-number-to-clause-here
returns-then-number-to-clause-here c = λ q e.
    let a = c.args in
    at_none (tree.get nat_cmp c.take.new.slots) q a.number e (c.take.ensures a.number ∙ chosen a.number a.number None (tree.get nat_cmp a.slots.now a.number) refl)
    ∙ sym (inside a.from a.to q None (at_slots (tree.get nat_cmp a.slots.now) q) (omega (arith, e)) (omega (arith, e)))

pub returns-clause-here : goal.returns-clause-here
returns-clause-here c = λ q e.
    let a = c.args in
    c.leave.ensures.here q e
    ∙ shown_here (tree.get nat_cmp a.slots.now) a.number a.slot c.without.result (λ (p : ℕ) (x : Option PointerPiece). if is_within a.from a.to p then None else x) c.requires.there c.without.ensures q e
