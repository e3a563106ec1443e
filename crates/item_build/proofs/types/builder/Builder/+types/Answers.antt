use Rattle.std.proofs.Common.{◌≡◌, ◌<◌, ◌^◌, [], map, All, sym, subst, ap, ◌∙◌, IfOk, arith, rules}
use Rattle.std.proofs.lemmas.List.{take_all}
use Rattle.std.specs.Global.{Vec}
use Rattle.ir_phrases.specs.declared.constants.ty.Type as the_type
use Rattle.ir_phrases.specs.declared.constants.ty.Type.TheFolds.{the_lemmas}
use Rattle.ir_phrases.specs.Constants.Tree.{types}
use Rattle.ir_phrases.specs.Constants.View.{type_view}
use Rattle.ir_phrases.specs.declared.constants.ty.ArrayType.{ArrayType}
use Rattle.type_table.specs.Limits.{IsWithinLimits}
use Rattle.type_table.specs.Shape.{shape}
use Rattle.type_table.specs.Tree.{int, array, struct}
use Rattle.type_table.specs.Types.{structs}
use Rattle.name_rules.specs.Written.{natural, type_in, types_in}
use Rattle.item_build.specs.Types.Fitting.{CanBe}
use Rattle.item_build.specs.Types.Stands.{IsType, AreTypes}
use Rattle.item_build.proofs.OnTypes.Growing.{grows_not, grows_on, then_grows}
use Rattle.item_build.proofs.OnTypes.Leaves.{array_is_short, ptr_fits, void_fits}
use Rattle.item_build.proofs.OnTypes.Lists.{no_types, types_step}
use Rattle.item_build.proofs.OnTypes.Made.{fields_made}
use Rattle.item_build.proofs.OnTypes.Staying.{structs_stay, can_still_be, fields_can_be, at_item}
use Rattle.item_build.proofs.types.builder.Builder.+types.Goals as goal

pub add_written-returns-in_ok-element-in-Array-clause-grows : goal.add_written-returns-in_ok-element-in-Array-clause-grows
add_written-returns-in_ok-element-in-Array-clause-grows t c = then_grows c.keep_type-in-Array.result _ _ _ c.in_ok-element-in-Array.ensures.grows c.keep_type-in-Array.ensures.grows

pub add_written-returns-in_ok-fields-in-Struct-clause-grows : goal.add_written-returns-in_ok-fields-in-Struct-clause-grows
add_written-returns-in_ok-fields-in-Struct-clause-grows t c = then_grows c.keep_type-in-Struct.result _ _ _ c.in_ok-fields-in-Struct.ensures.grows c.keep_type-in-Struct.ensures.grows

pub add_written-returns-in_ok-fields-in-Struct-clause-is : goal.add_written-returns-in_ok-fields-in-Struct-clause-is
add_written-returns-in_ok-fields-in-Struct-clause-is t c =
    let a = c.add_types.new.self.arena in
    let whole : type_in (type_view c.args.ty.now) ≡ struct c.in-Struct.packed (types_in (types (map type_view c.in-Struct.fields.value.items))) = search (rules, the_lemmas) in
    let are = subst (λ (ts : _). AreTypes a c.in_ok-fields-in-Struct.fields (map (λ (x : the_type.Type). type_in (type_view x)) ts)) (c.deref-in-Struct-2.ensures.value ∙ ap (λ (v : Vec the_type.Type). v.items) c.deref-in-Struct.ensures) c.in_ok-fields-in-Struct.ensures.are in
    subst (λ (x : _). IfOk c.keep_type-in-Struct.result (λ id. IsType c.keep_type-in-Struct.new.self.arena id x))
    (ap (struct c.in-Struct.packed) (fields_made type_view a c.in_ok-fields-in-Struct.fields c.in-Struct.fields.value.items are) ∙ sym whole)
    c.keep_type-in-Struct.ensures.is

pub add_types-loop-ty-init : goal.add_types-loop-ty-init
add_types-loop-ty-init t c = record {
  grows = grows_not c.args.self.now.arena;
  so_far = subst (λ ids. AreTypes c.args.self.now.arena ids []) (sym c.in_ok-ids.ensures.items) (no_types c.args.self.now.arena);
  within = λ whole can old. old;
}

pub add_types-loop-ty-preserved : goal.add_types-loop-ty-preserved
add_types-loop-ty-preserved t c = record {
  grows = grows_on _ _ _ c.loop-ty.invariant.grows c.in_ok-id.ensures.grows;
  so_far = types_step (λ (x : the_type.Type). type_in (type_view x)) c.args.types.now c.loop-ty.ty-index c.ty-item.result c.loop-ty-test.true c.ty-item.is c.loop-ty.self.arena c.add_written.new.self.arena c.in_ok-id.ensures.grows c.loop-ty.ids.items _ c.in_ok-id.id c.loop-ty.invariant.so_far c.in_ok-id.ensures.is c.in_ok-push.ensures.items;
  within = λ whole can old.
      c.in_ok-id.ensures.within whole
      (at_item (λ (x : the_type.Type). CanBe whole (type_in (type_view x))) c.args.types.now c.loop-ty.ty-index c.ty-item.result c.loop-ty-test.true c.ty-item.is can)
      (c.loop-ty.invariant.within whole can old);
}

pub add_types-returns-clause-grows : goal.add_types-returns-clause-grows
add_types-returns-clause-grows t c = c.loop-ty.invariant.grows

pub add_types-returns-clause-are : goal.add_types-returns-clause-are
add_types-returns-clause-are t c =
    let a = c.loop-ty.self.arena in
    subst (λ ids. AreTypes a ids (map (λ (x : the_type.Type). type_in (type_view x)) c.args.types.now)) (sym c.from_vec.ensures)
    (subst (λ xs. AreTypes a c.loop-ty.ids.items (map (λ (x : the_type.Type). type_in (type_view x)) xs)) (take_all c.loop-ty.ty-index c.args.types.now (omega arith)) c.loop-ty.invariant.so_far)

pub add_written-length_of-length-requires : goal.add_written-length_of-length-requires
add_written-length_of-length-requires t c =
    let ss = structs c.args.self.now.arena.table in
    let whole : type_in (type_view c.args.ty.now) ≡ array (natural c.in-Array.array.value.count) (type_in (type_view c.in-Array.array.value.element)) = search (rules, the_lemmas) in
    let can = subst (CanBe ss) whole c.requires in
    let le = array_is_short ss (natural c.in-Array.array.value.count) (type_in (type_view c.in-Array.array.value.element)) can.0 in
    let lt : natural c.in-Array.array.value.count < 2 ^ 64 = omega (arith, le) in
    subst (λ (a : ArrayType). natural a.count < 2 ^ 64) (sym c.deref.ensures) lt

pub add_written-keep_type-requires-in-Array-clause-fits : goal.add_written-keep_type-requires-in-Array-clause-fits
add_written-keep_type-requires-in-Array-clause-fits t c =
    let whole : type_in (type_view c.args.ty.now) ≡ array (natural c.in-Array.array.value.count) (type_in (type_view c.in-Array.array.value.element)) = search (rules, the_lemmas) in
    let can = subst (CanBe (structs c.args.self.now.arena.table)) whole c.requires in
    let many = c.length_of-length.ensures ∙ ap (λ (a : ArrayType). natural a.count) c.deref.ensures in
    let part = c.in_ok-element-in-Array.ensures.is.tree ∙ ap (λ (a : ArrayType). type_in (type_view a.element)) c.deref-in-Array.ensures in
    let same = structs_stay _ _ c.in_ok-element-in-Array.ensures.grows in
    subst IsWithinLimits (sym (λ j. shape (same j) (array (many j) (part j)))) can.0

pub add_written-add_types-requires : goal.add_written-add_types-requires
add_written-add_types-requires t c =
    let ss = structs c.args.self.now.arena.table in
    let whole : type_in (type_view c.args.ty.now) ≡ struct c.in-Struct.packed (types_in (types (map type_view c.in-Struct.fields.value.items))) = search (rules, the_lemmas) in
    let can = subst (CanBe ss) whole c.requires in
    let all = fields_can_be type_view ss c.in-Struct.fields.value.items can.1 in
    let each = subst (All (λ (x : the_type.Type). CanBe ss (type_in (type_view x)))) (sym (c.deref-in-Struct-2.ensures.value ∙ ap (λ (v : Vec the_type.Type). v.items) c.deref-in-Struct.ensures)) all in
    (search (rules, the_lemmas), each)

pub add_written-keep_type-requires-in-Struct-clause-fits : goal.add_written-keep_type-requires-in-Struct-clause-fits
add_written-keep_type-requires-in-Struct-clause-fits t c =
    let a = c.add_types.new.self.arena in
    let whole : type_in (type_view c.args.ty.now) ≡ struct c.in-Struct.packed (types_in (types (map type_view c.in-Struct.fields.value.items))) = search (rules, the_lemmas) in
    let can = subst (CanBe (structs c.args.self.now.arena.table)) whole c.requires in
    let are = subst (λ (ts : _). AreTypes a c.in_ok-fields-in-Struct.fields (map (λ (x : the_type.Type). type_in (type_view x)) ts)) (c.deref-in-Struct-2.ensures.value ∙ ap (λ (v : Vec the_type.Type). v.items) c.deref-in-Struct.ensures) c.in_ok-fields-in-Struct.ensures.are in
    let made = fields_made type_view a c.in_ok-fields-in-Struct.fields c.in-Struct.fields.value.items are in
    let same = structs_stay _ _ c.in_ok-fields-in-Struct.ensures.grows in
    subst IsWithinLimits (sym (λ j. shape (same j) (struct c.in-Struct.packed (made j)))) can.0

pub add_types-add_written-requires : goal.add_types-add_written-requires
add_types-add_written-requires t c =
    let f = λ (x : the_type.Type). type_in (type_view x) in
    let here = at_item (λ (x : the_type.Type). CanBe (structs c.args.self.now.arena.table) (f x)) c.args.types.now c.loop-ty.ty-index c.ty-item.result c.loop-ty-test.true c.ty-item.is c.requires in
    let can = can_still_be _ _ c.loop-ty.invariant.grows (f c.ty-item.result) here in
    (search (rules, the_lemmas), can)

-- ---- what is added is within the limits

pub add_written-returns-in-Integer-clause-within : goal.add_written-returns-in-Integer-clause-within
add_written-returns-in-Integer-clause-within t c whole can old =
    let is : type_in (type_view c.args.ty.now) ≡ int c.in-Integer.width = search (rules, the_lemmas) in
    c.add_integer.ensures.within whole (subst (CanBe whole) is can) old

pub add_written-returns-in-Ptr-clause-within : goal.add_written-returns-in-Ptr-clause-within
add_written-returns-in-Ptr-clause-within t c whole can old = c.keep_type.ensures.within whole (ptr_fits whole) old

pub add_written-returns-in-Void-clause-within : goal.add_written-returns-in-Void-clause-within
add_written-returns-in-Void-clause-within t c whole can old = c.keep_type-in-Void.ensures.within whole (void_fits whole) old

pub add_written-returns-in_ok-element-in-Array-clause-within : goal.add_written-returns-in_ok-element-in-Array-clause-within
add_written-returns-in_ok-element-in-Array-clause-within t c whole can old =
    let is : type_in (type_view c.args.ty.now) ≡ array (natural c.in-Array.array.value.count) (type_in (type_view c.in-Array.array.value.element)) = search (rules, the_lemmas) in
    let can_array = subst (CanBe whole) is can in
    let many = c.length_of-length.ensures ∙ ap (λ (a : ArrayType). natural a.count) c.deref.ensures in
    let part = c.in_ok-element-in-Array.ensures.is.tree ∙ ap (λ (a : ArrayType). type_in (type_view a.element)) c.deref-in-Array.ensures in
    let element = subst (λ (a : ArrayType). CanBe whole (type_in (type_view a.element))) (sym c.deref-in-Array.ensures) can_array.1 in
    c.keep_type-in-Array.ensures.within whole
    (subst IsWithinLimits (sym (λ j. shape whole (array (many j) (part j)))) can_array.0)
    (c.in_ok-element-in-Array.ensures.within whole element old)

pub add_written-returns-in_ok-fields-in-Struct-clause-within : goal.add_written-returns-in_ok-fields-in-Struct-clause-within
add_written-returns-in_ok-fields-in-Struct-clause-within t c whole can old =
    let a = c.add_types.new.self.arena in
    let is : type_in (type_view c.args.ty.now) ≡ struct c.in-Struct.packed (types_in (types (map type_view c.in-Struct.fields.value.items))) = search (rules, the_lemmas) in
    let can_struct = subst (CanBe whole) is can in
    let all = fields_can_be type_view whole c.in-Struct.fields.value.items can_struct.1 in
    let each = subst (All (λ (x : the_type.Type). CanBe whole (type_in (type_view x)))) (sym (c.deref-in-Struct-2.ensures.value ∙ ap (λ (v : Vec the_type.Type). v.items) c.deref-in-Struct.ensures)) all in
    let are = subst (λ (ts : _). AreTypes a c.in_ok-fields-in-Struct.fields (map (λ (x : the_type.Type). type_in (type_view x)) ts)) (c.deref-in-Struct-2.ensures.value ∙ ap (λ (v : Vec the_type.Type). v.items) c.deref-in-Struct.ensures) c.in_ok-fields-in-Struct.ensures.are in
    let made = fields_made type_view a c.in_ok-fields-in-Struct.fields c.in-Struct.fields.value.items are in
    c.keep_type-in-Struct.ensures.within whole
    (subst IsWithinLimits (sym (λ j. shape whole (struct c.in-Struct.packed (made j)))) can_struct.0)
    (c.in_ok-fields-in-Struct.ensures.within whole each old)
