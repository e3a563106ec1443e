use Rattle.std.proofs.Common.{◌+◌, ◌-◌, ◌/◌, ◌∙◌, Option, Some, refl, ap, arith}
use Rattle.std.specs.Prelude.{if◌then◌else◌}
use Rattle.std.specs.Ordering.{nat_cmp}
use Rattle.std.specs.BTreeMap as tree
use Rattle.ir_memory.specs.declared.pointers.piece.PointerPiece.{PointerPiece}
use Rattle.ir_memory.specs.Pointers.Pieces.{at_slots, is_within}
use Rattle.ir_memory.proofs.OnPointers.Seen.{chosen, passed, twice, whole_placed}
use Rattle.ir_memory.proofs.pointers.pieces.Pieces.place.Goals as goal

pub returns-then-at-eq0-clause-placed : goal.returns-then-at-eq0-clause-placed
returns-then-at-eq0-clause-placed c =
    let a = c.args in
    let now = tree.get nat_cmp a.self.now.slots in
    let put = c.in_ok-put.ensures.put in
    whole_placed now (tree.get nat_cmp c.put.new.slots) a.at a.pointer c.whole.result (omega arith) (put (a.at / 8) ∙ chosen (a.at / 8) (a.at / 8) (Some c.whole.result) (now (a.at / 8)) refl) c.whole.ensures
    (λ s n. put s ∙ passed s (a.at / 8) (Some c.whole.result) (now s) n)

pub returns-clause-placed : goal.returns-clause-placed
returns-clause-placed c = λ q.
    let a = c.args in
    let here = is_within a.at (a.at + 8) q in
    let piece : Option PointerPiece = Some (record { pointer = a.pointer; place = q - a.at }) in
    let mid = at_slots (tree.get nat_cmp c.make_room.new.slots) q in
    c.write_all.ensures q
    ∙ ap (λ (x : Option PointerPiece). if here then x else mid) (c.in_ok-found.ensures q)
    ∙ twice here piece mid
    ∙ ap (λ (x : Option PointerPiece). if here then piece else x) (c.make_room.ensures.same q)
