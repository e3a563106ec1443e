use Rattle.std.proofs.Common.{◌<◌, map, length, All, sym, subst, ap, ◌∙◌}
use Rattle.std.proofs.lemmas.List.Elements.{All-cons, All-weaker}
use Rattle.ir_phrases.specs.declared.constants.ty.Type as the_type
use Rattle.ir_phrases.specs.Constants.View.{type_view}
use Rattle.ir_syntax.specs.View.{alias_type_view}
use Rattle.type_table.specs.Types.{structs}
use Rattle.module_arena.specs.Module as m
use Rattle.name_rules.specs.ModuleOf.{alias_type_in}
use Rattle.name_rules.specs.Written.{type_in}
use Rattle.item_build.specs.Types.Fitting.{CanBe}
use Rattle.item_build.proofs.OnTypes.Growing.{grows_on}
use Rattle.item_build.proofs.OnTypes.Staying.{can_still_be}
use Rattle.item_build.specs.Types.Declarations.{CanAlias}
use Rattle.item_build.proofs.OnTypes.Declaring.{all_mapped}
use Rattle.item_build.proofs.OnTypes.Made.{map_twice}
use Rattle.item_build.proofs.types.aliases.add_alias_type.Goals as goal

pub add_types-requires : goal.add_types-requires
add_types-requires c =
    let a = c.args.builder.now.arena in
    let b = c.add_type-in-Function.new.self.arena in
    let can = subst (λ (w : _). CanAlias (structs a.table) (alias_type_view w)) c.in-Function.is c.requires in
    let items = c.in-Function.signature.parameters.items in
    let all = all_mapped type_view (λ t. CanBe (structs a.table) (type_in t)) items can.1 in
    let still = All-weaker (λ (x : the_type.Type). CanBe (structs a.table) (type_in (type_view x))) (λ (x : the_type.Type). CanBe (structs b.table) (type_in (type_view x))) (λ x h. can_still_be a b c.in_ok-returns-in-Function.ensures.grows (type_in (type_view x)) h) items all in
    subst (All (λ (x : the_type.Type). CanBe (structs b.table) (type_in (type_view x)))) (sym c.deref.ensures.value) still

pub returns-in_ok-parameters-in-Function-clause-grows : goal.returns-in_ok-parameters-in-Function-clause-grows
returns-in_ok-parameters-in-Function-clause-grows c = grows_on _ _ _ c.in_ok-returns-in-Function.ensures.grows c.in_ok-parameters-in-Function.ensures.grows

pub returns-in_ok-parameters-in-Function-clause-known : goal.returns-in_ok-parameters-in-Function-clause-known
returns-in_ok-parameters-in-Function-clause-known c =
    let returns = c.in_ok-parameters-in-Function.ensures.grows.types _ _ c.in_ok-returns-in-Function.ensures.is in
    All-cons (λ id. id < length c.add_types.new.self.arena.table.types) c.in_ok-returns-in-Function.returns c.in_ok-parameters-in-Function.parameters returns.known c.in_ok-parameters-in-Function.ensures.are.known

pub returns-in_ok-parameters-in-Function-clause-is : goal.returns-in_ok-parameters-in-Function-clause-is
returns-in_ok-parameters-in-Function-clause-is c =
    let returns = c.in_ok-parameters-in-Function.ensures.grows.types _ _ c.in_ok-returns-in-Function.ensures.is in
    let parameters = c.in_ok-parameters-in-Function.ensures.are.trees ∙ ap (map (λ (x : the_type.Type). type_in (type_view x))) c.deref.ensures.value ∙ sym (map_twice type_view type_in c.in-Function.signature.parameters.items) in
    (λ j. m.FunctionType (record { returns = returns.tree j; parameters = parameters j; variadic = c.in-Function.signature.variadic }))
    ∙ sym (ap (λ w. alias_type_in (alias_type_view w)) c.in-Function.is)
