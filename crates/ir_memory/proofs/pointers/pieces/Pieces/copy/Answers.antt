use Rattle.std.proofs.Common.{◌+◌, ◌-◌, ◌∙◌, Option, ap}
use Rattle.std.specs.Prelude.{if◌then◌else◌}
use Rattle.std.specs.Ordering.{nat_cmp}
use Rattle.std.specs.BTreeMap as tree
use Rattle.ir_memory.specs.declared.pointers.piece.PointerPiece.{PointerPiece}
use Rattle.ir_memory.specs.Pointers.Pieces.{at_slots, is_within}
use Rattle.ir_memory.proofs.OnPointers.Seen.{twice}
use Rattle.ir_memory.proofs.pointers.pieces.Pieces.copy.Goals as goal

pub returns-clause-copied : goal.returns-clause-copied
returns-clause-copied c = λ q.
    let a = c.args in
    let here = is_within a.to (a.to + a.count) q in
    let old = at_slots (tree.get nat_cmp a.self.now.slots) in
    let mid = at_slots (tree.get nat_cmp c.make_room.new.slots) q in
    c.write_all.ensures q
    ∙ ap (λ (x : Option PointerPiece). if here then x else mid) (c.in_ok-found.ensures q)
    ∙ twice here (old (a.from + (q - a.to))) mid
    ∙ ap (λ (x : Option PointerPiece). if here then old (a.from + (q - a.to)) else x) (c.make_room.ensures.same q)
