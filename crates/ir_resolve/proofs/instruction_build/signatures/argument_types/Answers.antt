use Rattle.std.proofs.Common.{map, sym, subst, arith, []}
use Rattle.std.proofs.lemmas.List.{take_all}
use Rattle.ir_phrases.specs.declared.constants.value.TypedValue.{TypedValue}
use Rattle.ir_phrases.specs.Constants.Tree.{TypedValueTree}
use Rattle.ir_phrases.specs.Constants.View.{type_view, typed_value_view}
use Rattle.name_rules.specs.Written.{type_in}
use Rattle.type_table.specs.Types.{structs}
use Rattle.item_build.specs.Types.Fitting.{CanBe}
use Rattle.item_build.specs.Types.Stands.{AreTypes}
use Rattle.item_build.proofs.OnTypes.Growing.{grows_not, grows_on}
use Rattle.item_build.proofs.OnTypes.Lists.{no_types, types_step}
use Rattle.item_build.proofs.OnTypes.Staying.{can_still_be}
use Rattle.item_build.proofs.OnTypes.Made.{map_twice}
use Rattle.ir_resolve.proofs.OnInstructionBuild.Taking.{at_mapped}
use Rattle.ir_resolve.proofs.instruction_build.signatures.argument_types.Goals as goal

pub add_type-requires : goal.add_type-requires
add_type-requires c =
    let here = at_mapped typed_value_view (λ (w : TypedValueTree). CanBe (structs c.args.builder.now.arena.table) (type_in w.0)) c.args.written.now c.loop-argument.argument-index c.argument-item.result c.loop-argument-test.true c.argument-item.is c.requires.can in
    can_still_be _ _ c.loop-argument.invariant.grows (type_in (type_view c.argument-item.result.ty)) here

pub loop-argument-init : goal.loop-argument-init
loop-argument-init c = record {
  grows = grows_not c.args.builder.now.arena;
  so_far = subst (λ ids. AreTypes c.args.builder.now.arena ids []) (sym c.in_ok-ids.ensures.items) (no_types c.args.builder.now.arena);
}

pub loop-argument-preserved : goal.loop-argument-preserved
loop-argument-preserved c = record {
  grows = grows_on _ _ _ c.loop-argument.invariant.grows c.in_ok-id.ensures.grows;
  so_far = types_step (λ (x : TypedValue). type_in (type_view x.ty)) c.args.written.now c.loop-argument.argument-index c.argument-item.result c.loop-argument-test.true c.argument-item.is c.loop-argument.builder.arena c.add_type.new.self.arena c.in_ok-id.ensures.grows c.loop-argument.ids.items _ c.in_ok-id.id c.loop-argument.invariant.so_far c.in_ok-id.ensures.is c.in_ok-push.ensures.items;
}

pub returns-clause-grows : goal.returns-clause-grows
returns-clause-grows c = c.loop-argument.invariant.grows

pub returns-clause-are : goal.returns-clause-are
returns-clause-are c =
    let a = c.loop-argument.builder.arena in
    let f = λ (x : TypedValue). type_in (type_view x.ty) in
    let all = subst (λ xs. AreTypes a c.loop-argument.ids.items (map f xs)) (take_all c.loop-argument.argument-index c.args.written.now (omega arith)) c.loop-argument.invariant.so_far in
    let meant = subst (λ ts. AreTypes a c.loop-argument.ids.items ts) (sym (map_twice typed_value_view (λ (w : TypedValueTree). type_in w.0) c.args.written.now)) all in
    subst (λ ids. AreTypes a ids (map (λ (w : TypedValueTree). type_in w.0) (map typed_value_view c.args.written.now))) (sym c.from_vec.ensures) meant
