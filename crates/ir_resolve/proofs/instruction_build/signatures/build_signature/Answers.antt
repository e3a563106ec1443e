use Rattle.std.proofs.Common.{false, List, All, Option, map, option_map, refl, sym, subst}
use Rattle.std.proofs.lemmas.List.Elements.{All-weaker}
use Rattle.ir_phrases.specs.declared.constants.ty.Type as the_type
use Rattle.ir_phrases.specs.declared.constants.value.TypedValue.{TypedValue}
use Rattle.ir_phrases.specs.Constants.Tree.{TypeTree, TypedValueTree}
use Rattle.ir_phrases.specs.Constants.View.{type_view, typed_value_view}
use Rattle.ir_phrases.specs.declared.instructions.operation.SignatureTypes as the_written
use Rattle.ir_phrases.specs.Instructions.View.{call_view, signature_view}
use Rattle.module_arena.specs.declared.instruction.Signature as the_signature
use Rattle.type_table.specs.Tree.{Tree}
use Rattle.type_table.specs.Types.{structs}
use Rattle.name_rules.specs.Bodies.{types_of, signature_in}
use Rattle.name_rules.specs.Written.{type_in}
use Rattle.item_build.specs.Types.Fitting.{CanBe}
use Rattle.item_build.specs.Types.Holding.{entries}
use Rattle.item_build.specs.Types.Stands.{AreTypes}
use Rattle.item_build.proofs.OnTypes.Growing.{grows_on}
use Rattle.item_build.proofs.OnTypes.Staying.{can_still_be}
use Rattle.item_build.proofs.OnTypes.Declaring.{all_mapped}
use Rattle.item_build.proofs.OnTypes.Made.{map_twice}
use Rattle.item_build.specs.Buildable.Bodies.{CanSignature}
use Rattle.ir_resolve.specs.InstructionBuild.Parts.{IsSignature}
use Rattle.ir_resolve.proofs.OnInstructionBuild.Taking.{can_stay}
use Rattle.ir_resolve.proofs.instruction_build.signatures.build_signature.Goals as goal

pub add_types-requires : goal.add_types-requires
add_types-requires c =
    let a = c.args.builder.now.arena in
    let b = c.add_type.new.self.arena in
    let items = c.in-Some.written.parameters.items in
    let can = subst (λ (s : Option the_written.SignatureTypes). CanSignature (structs a.table) (entries a) (option_map signature_view s)) c.in-Some.is c.requires.signature in
    let each = all_mapped type_view (λ (t : TypeTree). CanBe (structs a.table) (type_in t)) items can in
    let still = All-weaker (λ (x : the_type.Type). CanBe (structs a.table) (type_in (type_view x))) (λ (x : the_type.Type). CanBe (structs b.table) (type_in (type_view x))) (λ x h. can_still_be a b c.in_ok-returns.ensures.grows (type_in (type_view x)) h) items each in
    subst (All (λ (x : the_type.Type). CanBe (structs b.table) (type_in (type_view x)))) (sym c.deref.ensures.value) still

pub argument_types-requires : goal.argument_types-requires
argument_types-requires c =
    let b = c.add_type.new.self.arena in
    let items = c.args.call.now.arguments.items in
    let still = can_stay _ b c.in_ok-returns.ensures.grows (λ ss es. All (λ (w : TypedValueTree). CanBe ss (type_in w.0)) (map typed_value_view items)) c.requires.arguments in
    record { can = subst (λ (ws : List TypedValue). All (λ (w : TypedValueTree). CanBe (structs b.table) (type_in w.0)) (map typed_value_view ws)) (sym c.deref-in-None.ensures.value) still }

pub returns-in_ok-parameters-in-Some-clause-grows : goal.returns-in_ok-parameters-in-Some-clause-grows
returns-in_ok-parameters-in-Some-clause-grows c = grows_on _ _ _ c.in_ok-returns.ensures.grows c.in_ok-parameters-in-Some.ensures.grows

pub returns-in_ok-parameters-in-Some-clause-is : goal.returns-in_ok-parameters-in-Some-clause-is
returns-in_ok-parameters-in-Some-clause-is c =
    let b = c.add_types.new.self.arena in
    let call = call_view c.args.call.now in
    let ids = c.in_ok-parameters-in-Some.parameters in
    let items = c.in-Some.written.parameters.items in
    let are = subst (λ (ts : List the_type.Type). AreTypes b ids (map (λ (x : the_type.Type). type_in (type_view x)) ts)) c.deref.ensures.value c.in_ok-parameters-in-Some.ensures.are in
    let twice = subst (λ (ts : List Tree). AreTypes b ids ts) (sym (map_twice type_view type_in items)) are in
    let built : the_signature.Signature = record { returns = c.in_ok-returns.returns; parameters = ids; variadic = c.in-Some.written.variadic } in
    subst (λ (s : Option the_written.SignatureTypes). IsSignature b built (signature_in call.returns call.arguments (option_map signature_view s))) (sym c.in-Some.is)
    (record { returns = c.in_ok-parameters-in-Some.ensures.grows.types _ _ c.in_ok-returns.ensures.is; parameters = twice; variadic = refl })

pub returns-in_ok-parameters-in-None-clause-grows : goal.returns-in_ok-parameters-in-None-clause-grows
returns-in_ok-parameters-in-None-clause-grows c = grows_on _ _ _ c.in_ok-returns.ensures.grows c.in_ok-parameters-in-None.ensures.grows

pub returns-in_ok-parameters-in-None-clause-is : goal.returns-in_ok-parameters-in-None-clause-is
returns-in_ok-parameters-in-None-clause-is c =
    let b = c.argument_types.new.builder.arena in
    let call = call_view c.args.call.now in
    let ids = c.in_ok-parameters-in-None.parameters in
    let are = subst (λ (ws : List TypedValue). AreTypes b ids (types_of (map typed_value_view ws))) c.deref-in-None.ensures.value c.in_ok-parameters-in-None.ensures.are in
    let built : the_signature.Signature = record { returns = c.in_ok-returns.returns; parameters = ids; variadic = false } in
    subst (λ (s : Option the_written.SignatureTypes). IsSignature b built (signature_in call.returns call.arguments (option_map signature_view s))) (sym c.in-None.is)
    (record { returns = c.in_ok-parameters-in-None.ensures.grows.types _ _ c.in_ok-returns.ensures.is; parameters = are; variadic = refl })
