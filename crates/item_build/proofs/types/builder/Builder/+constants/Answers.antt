use Rattle.std.proofs.Common.{◌≡◌, ℕ, [], map, Box, All, sym, subst, ap, ◌∙◌, IfOk, arith, rules}
use Rattle.std.proofs.lemmas.List.{take_all}
use Rattle.std.proofs.lemmas.List.Elements.{All-weaker}
use Rattle.std.specs.Global.{Global, Vec}
use Rattle.ir_base.specs.declared.place.Place.{Place}
use Rattle.ir_phrases.specs.declared.constants.constant.Constant as the_constant
use Rattle.ir_phrases.specs.declared.constants.constant.Constant.TheFolds.{the_lemmas}
use Rattle.ir_phrases.specs.declared.constants.constant.Constant.TheVariants as the_variants
use Rattle.ir_phrases.specs.declared.constants.ty.Type as the_type
use Rattle.ir_phrases.specs.declared.constants.constant.TypedConstant.{TypedConstant}
use Rattle.ir_phrases.specs.Constants.Tree.{constants, ListConstant, ElementAddress, Conversion, Arithmetic}
use Rattle.ir_phrases.specs.Constants.View.{type_view, constant_view, typed_constant_view}
use Rattle.type_table.specs.Types.{structs}
use Rattle.module_arena.specs.Module as m
use Rattle.name_rules.specs.Written.{type_in, constant_in, constants_in, brackets_in}
use Rattle.item_build.specs.Types.Fitting.{CanBe}
use Rattle.item_build.specs.Types.Holding.{entries, CanHold, CanHoldTyped}
use Rattle.item_build.specs.Types.Stands.{IsConstant, AreTyped}
use Rattle.item_build.specs.Types.Typed.{typed_in, pair_of}
use Rattle.item_build.proofs.OnTypes.Growing.{grows_not, grows_on, then_grows, typed_one_stays}
use Rattle.item_build.proofs.OnTypes.Known.{knows_cast}
use Rattle.item_build.proofs.OnTypes.Lists.{no_typed, typed_step}
use Rattle.item_build.proofs.OnTypes.Made.{constants_at-listed, elements_made, typed_is}
use Rattle.item_build.proofs.OnTypes.Staying.{can_still_be, can_still_hold, can_still_hold_typed, elements_can_be_held, at_item}
use Rattle.item_build.proofs.types.builder.Builder.+constants.Goals as goal

pub add_written_constant-keep_address-requires-clause-source : goal.add_written_constant-keep_address-requires-clause-source
add_written_constant-keep_address-requires-clause-source t c = (c.in_ok-operands-in-GetElementPtr.ensures.grows.types _ _ c.in_ok-source-in-GetElementPtr.ensures.is).known

pub add_written_constant-keep_constant-requires-in-Cast : goal.add_written_constant-keep_constant-requires-in-Cast
add_written_constant-keep_constant-requires-in-Cast t c =
    let stays = typed_one_stays _ _ c.in_ok-to-in-Cast.ensures.grows c.in_ok-operand-in-Cast.operand _ c.in_ok-operand-in-Cast.ensures.is in
    knows_cast c.add_type-in-Cast.new.self.arena c.in-Cast.opcode c.in_ok-operand-in-Cast.operand c.in_ok-to-in-Cast.to (stays.ty.known, stays.value.known) c.in_ok-to-in-Cast.ensures.is.known

pub add_written_constant-keep_pair-requires-clause-left : goal.add_written_constant-keep_pair-requires-clause-left
add_written_constant-keep_pair-requires-clause-left t c =
    let stays = typed_one_stays _ _ c.in_ok-right-in-Binary.ensures.grows c.in_ok-left-in-Binary.left _ c.in_ok-left-in-Binary.ensures.is in
    (stays.ty.known, stays.value.known)

pub add_written_constant-returns-in_ok-elements-in-List-clause-grows : goal.add_written_constant-returns-in_ok-elements-in-List-clause-grows
add_written_constant-returns-in_ok-elements-in-List-clause-grows t c = then_grows c.keep_constant-in-List.result _ _ _ c.in_ok-elements-in-List.ensures.grows c.keep_constant-in-List.ensures.grows

pub add_written_constant-returns-in_ok-elements-in-List-clause-is : goal.add_written_constant-returns-in_ok-elements-in-List-clause-is
add_written_constant-returns-in_ok-elements-in-List-clause-is t c =
    let a = c.add_typed_list.new.self.arena in
    let whole : constant_in (type_in (type_view c.args.ty.now)) (constant_view c.args.constant.now) ≡ m.Aggregate (brackets_in c.in-List.round) (constants_in (constants (map typed_constant_view c.in-List.elements.value.items))) = search (rules, the_lemmas) in
    let are = subst (λ (xs : _). AreTyped a c.in_ok-elements-in-List.elements (map (λ (x : TypedConstant). typed_in (typed_constant_view x)) xs)) (c.deref-in-List.ensures.value ∙ ap (λ (v : Vec TypedConstant). v.items) c.deref.ensures) c.in_ok-elements-in-List.ensures.are in
    let made = elements_made typed_constant_view a c.in_ok-elements-in-List.elements c.in-List.elements.value.items are in
    subst (λ (k : _). IfOk c.keep_constant-in-List.result (λ id. IsConstant c.keep_constant-in-List.new.self.arena id k))
    ((λ j. m.Aggregate (c.brackets_of.ensures j) (made j)) ∙ sym whole)
    c.keep_constant-in-List.ensures.is

pub add_written_constant-returns-in_ok-operands-in-GetElementPtr-clause-grows : goal.add_written_constant-returns-in_ok-operands-in-GetElementPtr-clause-grows
add_written_constant-returns-in_ok-operands-in-GetElementPtr-clause-grows t c =
    then_grows c.keep_address.result _ _ _ (grows_on _ _ _ c.in_ok-source-in-GetElementPtr.ensures.grows c.in_ok-operands-in-GetElementPtr.ensures.grows) c.keep_address.ensures.grows

pub add_written_constant-returns-in_ok-operands-in-GetElementPtr-clause-is : goal.add_written_constant-returns-in_ok-operands-in-GetElementPtr-clause-is
add_written_constant-returns-in_ok-operands-in-GetElementPtr-clause-is t c =
    let a = c.add_typed_list-in-GetElementPtr.new.self.arena in
    let whole : constant_in (type_in (type_view c.args.ty.now)) (constant_view c.args.constant.now) ≡ m.ElementAddress c.in-GetElementPtr.flags (type_in (type_view c.in-GetElementPtr.source.value)) (constants_in (constants (map typed_constant_view c.in-GetElementPtr.operands.value.items))) = search (rules, the_lemmas) in
    let source = (c.in_ok-operands-in-GetElementPtr.ensures.grows.types _ _ c.in_ok-source-in-GetElementPtr.ensures.is).tree ∙ ap (λ x. type_in (type_view x)) c.deref-in-GetElementPtr.ensures in
    let are = subst (λ (xs : _). AreTyped a c.in_ok-operands-in-GetElementPtr.operands (map (λ (x : TypedConstant). typed_in (typed_constant_view x)) xs)) (c.deref-in-GetElementPtr-3.ensures.value ∙ ap (λ (v : Vec TypedConstant). v.items) c.deref-in-GetElementPtr-2.ensures) c.in_ok-operands-in-GetElementPtr.ensures.are in
    let made = sym (constants_at-listed a c.in_ok-operands-in-GetElementPtr.operands) ∙ elements_made typed_constant_view a c.in_ok-operands-in-GetElementPtr.operands c.in-GetElementPtr.operands.value.items are in
    subst (λ (k : _). IfOk c.keep_address.result (λ id. IsConstant c.keep_address.new.self.arena id k))
    ((λ j. m.ElementAddress c.in-GetElementPtr.flags (source j) (made j)) ∙ sym whole)
    c.keep_address.ensures.is

pub add_written_constant-returns-in_ok-to-in-Cast-clause-grows : goal.add_written_constant-returns-in_ok-to-in-Cast-clause-grows
add_written_constant-returns-in_ok-to-in-Cast-clause-grows t c =
    then_grows c.keep_constant-in-Cast.result _ _ _ (grows_on _ _ _ c.in_ok-operand-in-Cast.ensures.grows c.in_ok-to-in-Cast.ensures.grows) c.keep_constant-in-Cast.ensures.grows

pub add_written_constant-returns-in_ok-to-in-Cast-clause-is : goal.add_written_constant-returns-in_ok-to-in-Cast-clause-is
add_written_constant-returns-in_ok-to-in-Cast-clause-is t c =
    let a = c.add_type-in-Cast.new.self.arena in
    let from = typed_in (typed_constant_view c.in-Cast.operand.value) in
    let whole : constant_in (type_in (type_view c.args.ty.now)) (constant_view c.args.constant.now) ≡ m.Cast c.in-Cast.opcode from.0 from.1 (type_in (type_view c.in-Cast.to.value)) = search (rules, the_lemmas) in
    let stays = typed_one_stays _ _ c.in_ok-to-in-Cast.ensures.grows c.in_ok-operand-in-Cast.operand _ c.in_ok-operand-in-Cast.ensures.is in
    let operand = typed_is a c.in_ok-operand-in-Cast.operand _ stays ∙ ap (λ x. typed_in (typed_constant_view x)) c.deref-in-Cast.ensures in
    let to = c.in_ok-to-in-Cast.ensures.is.tree ∙ ap (λ x. type_in (type_view x)) c.deref-in-Cast-2.ensures in
    subst (λ (k : _). IfOk c.keep_constant-in-Cast.result (λ id. IsConstant c.keep_constant-in-Cast.new.self.arena id k))
    ((λ j. m.Cast c.in-Cast.opcode (operand j).0 (operand j).1 (to j)) ∙ sym whole)
    c.keep_constant-in-Cast.ensures.is

pub add_written_constant-returns-in_ok-right-in-Binary-clause-grows : goal.add_written_constant-returns-in_ok-right-in-Binary-clause-grows
add_written_constant-returns-in_ok-right-in-Binary-clause-grows t c =
    then_grows c.keep_pair.result _ _ _ (grows_on _ _ _ c.in_ok-left-in-Binary.ensures.grows c.in_ok-right-in-Binary.ensures.grows) c.keep_pair.ensures.grows

pub add_written_constant-returns-in_ok-right-in-Binary-clause-is : goal.add_written_constant-returns-in_ok-right-in-Binary-clause-is
add_written_constant-returns-in_ok-right-in-Binary-clause-is t c =
    let a = c.add_typed-in-Binary-2.new.self.arena in
    let whole : constant_in (type_in (type_view c.args.ty.now)) (constant_view c.args.constant.now) ≡ pair_of c.in-Binary.opcode c.in-Binary.flags (typed_in (typed_constant_view c.in-Binary.left.value)) (typed_in (typed_constant_view c.in-Binary.right.value)) = search (rules, the_lemmas) in
    let stays = typed_one_stays _ _ c.in_ok-right-in-Binary.ensures.grows c.in_ok-left-in-Binary.left _ c.in_ok-left-in-Binary.ensures.is in
    let left = typed_is a c.in_ok-left-in-Binary.left _ stays ∙ ap (λ x. typed_in (typed_constant_view x)) c.deref-in-Binary.ensures in
    let right = typed_is a c.in_ok-right-in-Binary.right _ c.in_ok-right-in-Binary.ensures.is ∙ ap (λ x. typed_in (typed_constant_view x)) c.deref-in-Binary-2.ensures in
    subst (λ (k : _). IfOk c.keep_pair.result (λ id. IsConstant c.keep_pair.new.self.arena id k))
    ((λ j. pair_of c.in-Binary.opcode c.in-Binary.flags (left j) (right j)) ∙ sym whole)
    c.keep_pair.ensures.is

pub add_typed-returns-clause-grows : goal.add_typed-returns-clause-grows
add_typed-returns-clause-grows t c = grows_on _ _ _ c.in_ok-ty.ensures.grows c.in_ok-value.ensures.grows

pub add_typed-returns-clause-is : goal.add_typed-returns-clause-is
add_typed-returns-clause-is t c = record { ty = c.in_ok-value.ensures.grows.types _ _ c.in_ok-ty.ensures.is; value = c.in_ok-value.ensures.is }

pub add_typed_list-loop-typed-init : goal.add_typed_list-loop-typed-init
add_typed_list-loop-typed-init t c = record {
  grows = grows_not c.args.self.now.arena;
  so_far = subst (λ ids. AreTyped c.args.self.now.arena ids []) (sym c.in_ok-ids.ensures.items) (no_typed c.args.self.now.arena);
}

pub add_typed_list-loop-typed-preserved : goal.add_typed_list-loop-typed-preserved
add_typed_list-loop-typed-preserved t c = record {
  grows = grows_on _ _ _ c.loop-typed.invariant.grows c.in_ok-id.ensures.grows;
  so_far = typed_step (λ (x : TypedConstant). typed_in (typed_constant_view x)) c.args.list.now c.loop-typed.typed-index c.typed-item.result c.loop-typed-test.true c.typed-item.is c.loop-typed.self.arena c.add_typed.new.self.arena c.in_ok-id.ensures.grows c.loop-typed.ids.items _ c.in_ok-id.id c.loop-typed.invariant.so_far c.in_ok-id.ensures.is c.in_ok-push.ensures.items;
}

pub add_typed_list-returns-clause-grows : goal.add_typed_list-returns-clause-grows
add_typed_list-returns-clause-grows t c = c.loop-typed.invariant.grows

pub add_typed_list-returns-clause-are : goal.add_typed_list-returns-clause-are
add_typed_list-returns-clause-are t c =
    let a = c.loop-typed.self.arena in
    subst (λ ids. AreTyped a ids (map (λ (x : TypedConstant). typed_in (typed_constant_view x)) c.args.list.now)) (sym c.from_vec.ensures)
    (subst (λ xs. AreTyped a c.loop-typed.ids.items (map (λ (x : TypedConstant). typed_in (typed_constant_view x)) xs)) (take_all c.loop-typed.typed-index c.args.list.now (omega arith)) c.loop-typed.invariant.so_far)

pub add_written_constant-add_typed_list-requires : goal.add_written_constant-add_typed_list-requires
add_written_constant-add_typed_list-requires t c =
    let a = c.args.self.now.arena in
    let whole : constant_view c.args.constant.now ≡ ListConstant c.in-List.field-0 c.in-List.round (constants (map typed_constant_view c.in-List.elements.value.items)) = search (rules, the_lemmas) in
    let can = subst (CanHold (structs a.table) (entries a)) whole c.requires.constant in
    let all = elements_can_be_held typed_constant_view (structs a.table) (entries a) c.in-List.elements.value.items can in
    let each = subst (All (λ (x : TypedConstant). CanHoldTyped (structs a.table) (entries a) (typed_constant_view x))) (sym (c.deref-in-List.ensures.value ∙ ap (λ (v : Vec TypedConstant). v.items) c.deref.ensures)) all in
    (search (rules, the_lemmas), each)

-- what the address of an element is, as it is written
element_address : (written : the_constant.Constant) (place : Place) (flags : ℕ) (source : Box the_type.Type Global) (operands : Box (Vec TypedConstant) Global) → written ≡ the_variants.GetElementPtr place flags source operands
    → constant_view written ≡ ElementAddress place flags (type_view source.value) (constants (map typed_constant_view operands.value.items))
element_address written place flags source operands is = search (rules, the_lemmas)

pub add_written_constant-add_typed_list-requires-in-GetElementPtr : goal.add_written_constant-add_typed_list-requires-in-GetElementPtr
add_written_constant-add_typed_list-requires-in-GetElementPtr t c =
    let a = c.args.self.now.arena in
    let b = c.add_type.new.self.arena in
    let whole = element_address c.args.constant.now c.in-GetElementPtr.field-0 c.in-GetElementPtr.flags c.in-GetElementPtr.source c.in-GetElementPtr.operands c.in-GetElementPtr.is in
    let can = subst (CanHold (structs a.table) (entries a)) whole c.requires.constant in
    let all = elements_can_be_held typed_constant_view (structs a.table) (entries a) c.in-GetElementPtr.operands.value.items can.1 in
    let still = All-weaker (λ (x : TypedConstant). CanHoldTyped (structs a.table) (entries a) (typed_constant_view x)) (λ (x : TypedConstant). CanHoldTyped (structs b.table) (entries b) (typed_constant_view x)) (λ x h. can_still_hold_typed a b c.in_ok-source-in-GetElementPtr.ensures.grows (typed_constant_view x) h) c.in-GetElementPtr.operands.value.items all in
    let each = subst (All (λ (x : TypedConstant). CanHoldTyped (structs b.table) (entries b) (typed_constant_view x))) (sym (c.deref-in-GetElementPtr-3.ensures.value ∙ ap (λ (v : Vec TypedConstant). v.items) c.deref-in-GetElementPtr-2.ensures)) still in
    (search (rules, the_lemmas), each)

pub add_written_constant-add_type-requires-in-Cast : goal.add_written_constant-add_type-requires-in-Cast
add_written_constant-add_type-requires-in-Cast t c =
    let a = c.args.self.now.arena in
    let x = typed_constant_view c.in-Cast.operand.value in
    let whole : constant_view c.args.constant.now ≡ Conversion c.in-Cast.field-0 c.in-Cast.opcode x.0 x.1 (type_view c.in-Cast.to.value) = search (rules, the_lemmas) in
    let can = subst (CanHold (structs a.table) (entries a)) whole c.requires.constant in
    let still = can_still_be _ _ c.in_ok-operand-in-Cast.ensures.grows (type_in (type_view c.in-Cast.to.value)) can.1 in
    subst (λ (y : _). CanBe (structs c.add_typed.new.self.arena.table) (type_in (type_view y))) (sym c.deref-in-Cast-2.ensures) still

pub add_written_constant-add_typed-requires-in-Binary-2 : goal.add_written_constant-add_typed-requires-in-Binary-2
add_written_constant-add_typed-requires-in-Binary-2 t c =
    let a = c.args.self.now.arena in
    let b = c.add_typed-in-Binary.new.self.arena in
    let x = typed_constant_view c.in-Binary.left.value in
    let y = typed_constant_view c.in-Binary.right.value in
    let whole : constant_view c.args.constant.now ≡ Arithmetic c.in-Binary.field-0 c.in-Binary.opcode c.in-Binary.flags x.0 x.1 y.0 y.1 = search (rules, the_lemmas) in
    let can = subst (CanHold (structs a.table) (entries a)) whole c.requires.constant in
    let still = can_still_hold_typed a b c.in_ok-left-in-Binary.ensures.grows y can.1 in
    let held = subst (λ (z : TypedConstant). CanHoldTyped (structs b.table) (entries b) (typed_constant_view z)) (sym c.deref-in-Binary-2.ensures) still in
    (search (rules, the_lemmas), held)

pub add_typed-add_written_constant-requires : goal.add_typed-add_written_constant-requires
add_typed-add_written_constant-requires t c =
    let x = typed_constant_view c.args.typed.now in
    let ty = can_still_be _ _ c.in_ok-ty.ensures.grows (type_in x.0) c.requires.0 in
    let held = can_still_hold _ _ c.in_ok-ty.ensures.grows x.1 c.requires.1 in
    (search (rules, the_lemmas), (ty, held))

pub add_typed_list-add_typed-requires : goal.add_typed_list-add_typed-requires
add_typed_list-add_typed-requires t c =
    let a = c.args.self.now.arena in
    let here = at_item (λ (x : TypedConstant). CanHoldTyped (structs a.table) (entries a) (typed_constant_view x)) c.args.list.now c.loop-typed.typed-index c.typed-item.result c.loop-typed-test.true c.typed-item.is c.requires in
    let held = can_still_hold_typed _ _ c.loop-typed.invariant.grows (typed_constant_view c.typed-item.result) here in
    (search (rules, the_lemmas), held)
