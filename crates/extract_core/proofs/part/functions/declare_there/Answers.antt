use Rattle.std.proofs.Common.{◌+◌, Some, None, refl, sym, subst, ap, ◌∙◌}
use Rattle.module_arena.specs.declared.entry.Function as the_function
use Rattle.module_arena.specs.Changes.{with_function}
use Rattle.module_arena.specs.Known.{KnowsFunction}
use Rattle.module_arena.specs.Lists.{Lists, global_name}
use Rattle.module_arena.specs.View.{module_of, type_at}
use Rattle.type_table.specs.Types.{trees}
use Rattle.item_build.specs.Types.Declarations.{IsFree}
use Rattle.item_build.specs.Types.Stands.{IsType}
use Rattle.extract_rules.proofs.Entries.{all_get}
use Rattle.extract_core.specs.Declaring.Declaring.{IsDeclaring, KeepsNames}
use Rattle.extract_core.specs.Part.FunctionsThere.{functions_through}
use Rattle.extract_core.proofs.OnPart.DeclaredNext.{with_function_keeps, function_called}
use Rattle.extract_core.proofs.OnDeclaring.StaysDeclared.{types_there, type_is_copied}
use Rattle.extract_core.proofs.OnPart.FunctionsDeclared.{function_called_so, function_free, function_few, function_more, function_known, function_is, function_joined}
use Rattle.extract_core.proofs.part.functions.declare_there.Goals as goal

pub add_function-requires-clause-known : goal.add_function-requires-clause-known
add_function-requires-clause-known c =
    let a = c.args.from.now in
    let b = c.args.into.now.arena in
    let f = c.function-function.result.now in
    let d : the_function.Function = record { name = c.in_ok-name.name; linkage = c.function_linkage.result; result = c.new_type.result; parameters = c.in_ok-parameters.parameters; variadic = f.variadic; body = None } in
    let known = all_get (KnowsFunction _ _) a.functions c.args.id f c.variable_count-good.ensures.good.functions c.function-function.ensures in
    let is = subst (λ i. IsType b i (type_at (trees a.table) f.result)) (sym c.new_type.ensures) (type_is_copied a b c.args.copier.now c.requires.types f.result known.result_known) in
    function_known b d is.known (c.in_ok-parameters.ensures a b c.requires.types known.parameters_known).known refl

pub add_function-requires-clause-free : goal.add_function-requires-clause-free
add_function-requires-clause-free c =
    let a = c.args.from.now in
    let b = c.args.into.now.arena in
    let f = c.function-function.result.now in
    subst (IsFree b) (sym c.in_ok-name.ensures)
    (function_free a b c.args.id c.requires.declaring f.name c.variable_count-good.ensures.distinct (function_called_so a c.args.id f c.function-function.ensures))

pub add_function-requires-clause-few : goal.add_function-requires-clause-few
add_function-requires-clause-few c = function_few c.args.from.now c.args.into.now.arena c.args.id c.requires.declaring c.variable_count-good.ensures.good c.requires.known

pub returns-clause-module : goal.returns-clause-module
returns-clause-module c = λ w e.
    let a = c.args.from.now in
    let b = c.args.into.now.arena in
    let f = c.function-function.result.now in
    let d : the_function.Function = record { name = c.in_ok-name.name; linkage = c.function_linkage.result; result = c.new_type.result; parameters = c.in_ok-parameters.parameters; variadic = f.variadic; body = None } in
    let known = all_get (KnowsFunction _ _) a.functions c.args.id f c.variable_count-good.ensures.good.functions c.function-function.ensures in
    let is = subst (λ i. IsType b i (type_at (trees a.table) f.result)) (sym c.new_type.ensures) (type_is_copied a b c.args.copier.now c.requires.types f.result known.result_known) in
    let same = function_is a b f c.args.fate c.in_ok-name.name c.function_linkage.result c.new_type.result c.in_ok-parameters.parameters c.in_ok-name.ensures c.function_linkage.ensures is (c.in_ok-parameters.ensures a b c.requires.types known.parameters_known) in
    c.in_ok-new.ensures.module ∙ function_joined a b (module_of b) c.args.id f d c.args.fate c.requires.there c.function-function.ensures same w e

pub returns-clause-types : goal.returns-clause-types
returns-clause-types c =
    types_there c.args.from.now c.args.into.now.arena c.add_function.new.into.arena c.args.copier.now (ap (λ (l : Lists). l.table) c.in_ok-new.ensures.lists) c.requires.types

pub returns-clause-declaring : goal.returns-clause-declaring
returns-clause-declaring c =
    let a = c.args.from.now in
    let b = c.args.into.now.arena in
    let f = c.function-function.result.now in
    let d : the_function.Function = record { name = c.in_ok-name.name; linkage = c.function_linkage.result; result = c.new_type.result; parameters = c.in_ok-parameters.parameters; variadic = f.variadic; body = None } in
    subst (IsDeclaring a (functions_through a (c.args.id + 1))) (sym c.in_ok-new.ensures.lists)
    (function_more a b c.args.id c.requires.declaring d (function_called_so a c.args.id f c.function-function.ensures ∙ ap Some (sym c.in_ok-name.ensures)))

pub returns-clause-keeps : goal.returns-clause-keeps
returns-clause-keeps c =
    let b = c.args.into.now.arena in
    let f = c.function-function.result.now in
    let d : the_function.Function = record { name = c.in_ok-name.name; linkage = c.function_linkage.result; result = c.new_type.result; parameters = c.in_ok-parameters.parameters; variadic = f.variadic; body = None } in
    subst (KeepsNames b) (sym c.in_ok-new.ensures.lists) (with_function_keeps b d)

pub returns-clause-id : goal.returns-clause-id
returns-clause-id c = λ name called.
    let a = c.args.from.now in
    let b = c.args.into.now.arena in
    let f = c.function-function.result.now in
    let d : the_function.Function = record { name = c.in_ok-name.name; linkage = c.function_linkage.result; result = c.new_type.result; parameters = c.in_ok-parameters.parameters; variadic = f.variadic; body = None } in
    ap (λ (l : Lists). global_name l c.in_ok-new.new) c.in_ok-new.ensures.lists ∙ ap (global_name (with_function b d)) c.in_ok-new.ensures.id ∙ function_called b d
    ∙ ap Some c.in_ok-name.ensures ∙ sym (function_called_so a c.args.id f c.function-function.ensures) ∙ called
