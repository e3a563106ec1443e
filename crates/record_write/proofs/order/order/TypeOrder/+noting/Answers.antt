use Rattle.std.proofs.Common.{◌<◌, map, length, Some, refl, sym, ap, ◌∙◌, subst, arith}
use Rattle.type_table.specs.Tree.{Tree}
use Rattle.type_table.specs.Types.{Types, tree}
use Rattle.record_write.specs.Order.Order.{listed_trees, HasParts}
use Rattle.record_write.proofs.OnOrder.Noting.{top, below_top, top_within, all_within, notes_none, notes_same, notes_more, notes_all, notes_known, tree_at, knows_at, notes_leaf, array_parts, notes_array, struct_parts, notes_struct}
use Rattle.record_write.proofs.order.order.TypeOrder.+noting.Goals as goal

pub note_all-loop-ty-init : goal.note_all-loop-ty-init
note_all-loop-ty-init t c = notes_none c.args.self.now

pub note_all-note-requires : goal.note_all-note-requires
note_all-note-requires t c =
    let deep = below_top c.args.types.now c.loop-ty.ty-index c.ty-item.result c.loop-ty-test.true in
    let same = c.ty-item.is in
    let bound = c.requires c.loop-ty.ty-index c.ty-item.result c.loop-ty-test.true in
    let here : c.ty-item.result < length c.args.self.now.types.types = omega (arith, bound, same) in
    (omega (arith, deep, c.decreases, same), subst (λ (u : Types). c.ty-item.result < length u.types) (sym c.loop-ty.invariant.types) here)

pub note_all-loop-ty-preserved : goal.note_all-loop-ty-preserved
note_all-loop-ty-preserved t c = notes_more c.args.self.now.types c.args.types.now c.loop-ty.ty-index c.ty-item.result refl c.loop-ty-test.true c.ty-item.is c.loop-ty.invariant c.in_ok-note.ensures

pub note_all-returns : goal.note_all-returns
note_all-returns t c = notes_all c.args.self.now.types c.args.types.now c.loop-ty.ty-index c.loop-ty-test.false c.loop-ty.invariant

pub note-returns-then-has : goal.note-returns-then-has
note-returns-then-has t c = notes_known c.args.self.now (tree c.args.self.now.types c.args.ty) c.has.ensures.closed (sym c.has.ensures.has ∙ c.if-has.true)

pub note-note-requires : goal.note-note-requires
note-note-requires t c =
    let at = c.get.ensures ∙ ap Some c.in-Array.is in
    let below = knows_at c.args.self.now c.table-types.result.now c.table-types.ensures c.type_count-count.ensures.good c.args.ty _ at in
    (omega (arith, below, c.decreases), omega (arith, below, c.requires))

pub note-list-requires : goal.note-list-requires
note-list-requires t c =
    let at = c.get.ensures ∙ ap Some c.in-Array.is in
    let is = tree_at c.args.self.now c.table-types.result.now c.table-types.ensures c.type_count-count.ensures.good c.args.ty _ at in
    record {
      ty = subst (λ (u : Types). c.args.ty < length u.types) (sym c.in_ok-note-in-Array.ensures.types) c.requires;
      parts = array_parts c.args.self.now c.note.new.self c.args.ty _ c.in-Array.element is c.in_ok-note-in-Array.ensures;
    }

pub note-returns-in_ok-note-in-Array : goal.note-returns-in_ok-note-in-Array
note-returns-in_ok-note-in-Array t c =
    let at = c.get.ensures ∙ ap Some c.in-Array.is in
    let is = tree_at c.args.self.now c.table-types.result.now c.table-types.ensures c.type_count-count.ensures.good c.args.ty _ at in
    notes_array c.args.self.now c.note.new.self c.args.ty _ c.in-Array.element is c.in_ok-note-in-Array.ensures c.list.new.self c.list.result c.list.ensures

pub note-note_all-requires : goal.note-note_all-requires
note-note_all-requires t c =
    let at = c.get.ensures ∙ ap Some c.in-Struct.is in
    let below = knows_at c.args.self.now c.table-types.result.now c.table-types.ensures c.type_count-count.ensures.good c.args.ty _ at in
    let high = top_within c.in-Struct.fields c.args.ty below in
    let larger = all_within c.in-Struct.fields c.args.ty (length c.args.self.now.types.types) (omega (arith, c.requires)) below in
    let same = ap top c.as_slice.ensures in
    (omega (arith, high, c.decreases, same), rw c.as_slice.ensures larger)

pub note-list-requires-in-Struct : goal.note-list-requires-in-Struct
note-list-requires-in-Struct t c =
    let at = c.get.ensures ∙ ap Some c.in-Struct.is in
    let is = tree_at c.args.self.now c.table-types.result.now c.table-types.ensures c.type_count-count.ensures.good c.args.ty _ at in
    record {
      ty = subst (λ (u : Types). c.args.ty < length u.types) (sym c.in_ok-note_all-in-Struct.ensures.types) c.requires;
      parts = struct_parts c.args.self.now c.note_all.new.self c.args.ty _ c.in-Struct.fields is (notes_same (ap (map (tree c.args.self.now.types)) c.as_slice.ensures) c.in_ok-note_all-in-Struct.ensures);
    }

pub note-returns-in_ok-note_all-in-Struct : goal.note-returns-in_ok-note_all-in-Struct
note-returns-in_ok-note_all-in-Struct t c =
    let at = c.get.ensures ∙ ap Some c.in-Struct.is in
    let is = tree_at c.args.self.now c.table-types.result.now c.table-types.ensures c.type_count-count.ensures.good c.args.ty _ at in
    notes_struct c.args.self.now c.note_all.new.self c.args.ty _ c.in-Struct.fields is (notes_same (ap (map (tree c.args.self.now.types)) c.as_slice.ensures) c.in_ok-note_all-in-Struct.ensures) c.list-in-Struct.new.self c.list-in-Struct.result c.list-in-Struct.ensures

pub note-list-requires-in-Int : goal.note-list-requires-in-Int
note-list-requires-in-Int t c =
    let at = c.get.ensures ∙ ap Some c.in-Int.is in
    let is = tree_at c.args.self.now c.table-types.result.now c.table-types.ensures c.type_count-count.ensures.good c.args.ty _ at in
    record { ty = c.requires; parts = subst (λ (y : Tree). HasParts (listed_trees c.args.self.now) y) (sym is) tt }

pub note-returns-in-Int : goal.note-returns-in-Int
note-returns-in-Int t c =
    let at = c.get.ensures ∙ ap Some c.in-Int.is in
    let is = tree_at c.args.self.now c.table-types.result.now c.table-types.ensures c.type_count-count.ensures.good c.args.ty _ at in
    notes_leaf c.args.self.now c.list-in-Int.new.self c.args.ty _ c.list-in-Int.result is (λ all. refl) c.list-in-Int.ensures

pub note-list-requires-in-Ptr : goal.note-list-requires-in-Ptr
note-list-requires-in-Ptr t c =
    let at = c.get.ensures ∙ ap Some c.in-Ptr.is in
    let is = tree_at c.args.self.now c.table-types.result.now c.table-types.ensures c.type_count-count.ensures.good c.args.ty _ at in
    record { ty = c.requires; parts = subst (λ (y : Tree). HasParts (listed_trees c.args.self.now) y) (sym is) tt }

pub note-returns-in-Ptr : goal.note-returns-in-Ptr
note-returns-in-Ptr t c =
    let at = c.get.ensures ∙ ap Some c.in-Ptr.is in
    let is = tree_at c.args.self.now c.table-types.result.now c.table-types.ensures c.type_count-count.ensures.good c.args.ty _ at in
    notes_leaf c.args.self.now c.list-in-Ptr.new.self c.args.ty _ c.list-in-Ptr.result is (λ all. refl) c.list-in-Ptr.ensures

pub note-list-requires-in-Void : goal.note-list-requires-in-Void
note-list-requires-in-Void t c =
    let at = c.get.ensures ∙ ap Some c.in-Void.is in
    let is = tree_at c.args.self.now c.table-types.result.now c.table-types.ensures c.type_count-count.ensures.good c.args.ty _ at in
    record { ty = c.requires; parts = subst (λ (y : Tree). HasParts (listed_trees c.args.self.now) y) (sym is) tt }

pub note-returns-in-Void : goal.note-returns-in-Void
note-returns-in-Void t c =
    let at = c.get.ensures ∙ ap Some c.in-Void.is in
    let is = tree_at c.args.self.now c.table-types.result.now c.table-types.ensures c.type_count-count.ensures.good c.args.ty _ at in
    notes_leaf c.args.self.now c.list-in-Void.new.self c.args.ty _ c.list-in-Void.result is (λ all. refl) c.list-in-Void.ensures

pub note-list-requires-in-Named : goal.note-list-requires-in-Named
note-list-requires-in-Named t c =
    let at = c.get.ensures ∙ ap Some c.in-Named.is in
    let is = tree_at c.args.self.now c.table-types.result.now c.table-types.ensures c.type_count-count.ensures.good c.args.ty _ at in
    record { ty = c.requires; parts = subst (λ (y : Tree). HasParts (listed_trees c.args.self.now) y) (sym is) tt }

pub note-returns-in-Named : goal.note-returns-in-Named
note-returns-in-Named t c =
    let at = c.get.ensures ∙ ap Some c.in-Named.is in
    let is = tree_at c.args.self.now c.table-types.result.now c.table-types.ensures c.type_count-count.ensures.good c.args.ty _ at in
    notes_leaf c.args.self.now c.list-in-Named.new.self c.args.ty _ c.list-in-Named.result is (λ all. refl) c.list-in-Named.ensures
