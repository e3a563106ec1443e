use Rattle.std.proofs.Common.{◌≡◌, ◌+◌, ◌<◌, Some, None, length, refl, sym, subst, ap, ◌∙◌}
use Rattle.std.proofs.lemmas.List.Elements.{All-head, All-tail}
use Rattle.std.proofs.lemmas.Option.{slice_get_within}
use Rattle.ir_tables.specs.declared.linkage.Linkage.TheVariants.{External}
use Rattle.type_table.specs.Types.{trees}
use Rattle.module_arena.specs.declared.entry.Function as the_function
use Rattle.module_arena.specs.declared.entry.GlobalId.TheVariants as global
use Rattle.module_arena.specs.Changes.{with_function}
use Rattle.module_arena.specs.Lists.{Lists, global_name}
use Rattle.module_arena.specs.View.{module_of, type_at}
use Rattle.item_build.specs.Types.Declarations.{IsFree}
use Rattle.item_build.specs.Types.Stands.{IsType}
use Rattle.extract_core.specs.Declaring.Declaring.{IsDeclaring, KeepsNames}
use Rattle.extract_core.specs.Part.AliasesThere.{aliases_through}
use Rattle.extract_core.proofs.OnPart.DeclaredNext.{with_function_keeps, function_called}
use Rattle.extract_core.proofs.OnDeclaring.StaysDeclared.{types_there, type_is_copied}
use Rattle.extract_core.proofs.OnPart.AliasesDeclared.{alias_called_so, alias_free, function_few, function_more, signature_known, function_joined}
use Rattle.extract_core.proofs.OnPart.FunctionsDeclared.{function_known}
use Rattle.extract_core.proofs.part.aliases.declare_as_function.Goals as goal

pub add_function-requires-clause-known : goal.add_function-requires-clause-known
add_function-requires-clause-known c =
    let a = c.args.from.now in
    let b = c.args.into.now.arena in
    let d : the_function.Function = record { name = c.in_ok-name.name; linkage = External; result = c.new_type.result; parameters = c.in_ok-parameters.parameters; variadic = c.args.variadic; body = None } in
    function_known b d (subst (λ i. IsType b i (type_at (trees a.table) c.args.returns)) (sym c.new_type.ensures) (type_is_copied a b c.args.copier.now c.requires.types c.args.returns (All-head (λ i. i < length a.table.types) c.args.returns c.args.parameters.now (signature_known a c.variable_count-good.ensures.good c.args.id c.args.alias.now c.args.returns c.args.parameters.now c.args.variadic c.requires.here c.requires.ty)))).known (c.in_ok-parameters.ensures a b c.requires.types (All-tail (λ i. i < length a.table.types) c.args.returns c.args.parameters.now (signature_known a c.variable_count-good.ensures.good c.args.id c.args.alias.now c.args.returns c.args.parameters.now c.args.variadic c.requires.here c.requires.ty))).known refl

pub add_function-requires-clause-free : goal.add_function-requires-clause-free
add_function-requires-clause-free c =
    let x = c.args.alias.now in
    subst (IsFree c.args.into.now.arena) (sym c.in_ok-name.ensures)
    (alias_free c.args.from.now c.args.into.now.arena c.args.id c.requires.declaring x.name c.variable_count-good.ensures.distinct (alias_called_so c.args.from.now c.args.id x c.requires.here))

pub add_function-requires-clause-few : goal.add_function-requires-clause-few
add_function-requires-clause-few c = function_few c.args.from.now c.args.into.now.arena c.args.id c.requires.declaring c.variable_count-good.ensures.good (slice_get_within c.args.from.now.aliases c.args.id c.args.alias.now c.requires.here)

pub returns : goal.returns
returns c =
    let a = c.args.from.now in
    let b = c.args.into.now.arena in
    let t = c.args.copier.now in
    let id = c.args.id in
    let new = c.add_function.new.into.arena in
    let x = c.args.alias.now in
    let at = c.requires.here in
    let step = c.in_ok-new.ensures in
    let d : the_function.Function = record { name = c.in_ok-name.name; linkage = External; result = c.new_type.result; parameters = c.in_ok-parameters.parameters; variadic = c.args.variadic; body = None } in
    let called : global_name a (global.Alias id) ≡ Some d.name = alias_called_so a id x at ∙ ap Some (sym c.in_ok-name.ensures) in
    let is = subst (λ i. IsType b i (type_at (trees a.table) c.args.returns)) (sym c.new_type.ensures) (type_is_copied a b c.args.copier.now c.requires.types c.args.returns (All-head (λ i. i < length a.table.types) c.args.returns c.args.parameters.now (signature_known a c.variable_count-good.ensures.good c.args.id c.args.alias.now c.args.returns c.args.parameters.now c.args.variadic c.requires.here c.requires.ty))) in
    let are = c.in_ok-parameters.ensures a b c.requires.types (All-tail (λ i. i < length a.table.types) c.args.returns c.args.parameters.now (signature_known a c.variable_count-good.ensures.good c.args.id c.args.alias.now c.args.returns c.args.parameters.now c.args.variadic c.requires.here c.requires.ty)) in
    record {
      joined = λ w e. step.module ∙ function_joined a b (module_of b) id x at c.in_ok-name.name c.args.returns c.new_type.result c.args.parameters.now c.args.variadic c.in_ok-parameters.parameters c.in_ok-name.ensures c.requires.ty is are w e;
      types = types_there a b new t (ap (λ (l : Lists). l.table) step.lists) c.requires.types;
      declaring = subst (IsDeclaring a (aliases_through a (id + 1))) (sym step.lists) (function_more a b id c.requires.declaring d called);
      keeps = subst (KeepsNames b) (sym step.lists) (with_function_keeps b d);
      called = λ name named. ap (λ (l : Lists). global_name l c.in_ok-new.new) step.lists ∙ ap (global_name (with_function b d)) step.id ∙ function_called b d ∙ sym called ∙ named;
    }
