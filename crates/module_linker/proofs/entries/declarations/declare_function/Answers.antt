use Rattle.std.proofs.Common.{◌≡◌, ◌<◌, Some, None, refl, slice_get, sym, subst}
use Rattle.type_table.specs.Types.{trees}
use Rattle.module_arena.specs.declared.entry.Function as the_function
use Rattle.module_arena.specs.Known.{KnowsFunction}
use Rattle.module_arena.specs.View.{type_at}
use Rattle.linkage_rules.specs.Ids.{modules}
use Rattle.linkage_rules.proofs.Seen.{known_part}
use Rattle.linkage_rules.proofs.Steps.{all_get}
use Rattle.link_rules.specs.Structs.{linked_type}
use Rattle.item_build.specs.Types.Declarations.{IsFree}
use Rattle.item_build.specs.Types.Stands.{IsType}
use Rattle.item_build.proofs.OnTypes.Growing.{grows_not}
use Rattle.module_linker.specs.Entries.Room.{HasRoom}
use Rattle.module_linker.specs.Entries.Step.{IsDeclared}
use Rattle.module_linker.proofs.OnEntries.DeclaredMore.{function_more}
use Rattle.module_linker.proofs.OnEntries.Written.{type_there, declared_function, function_declared, function_is, function_known}
use Rattle.module_linker.proofs.entries.declarations.declare_function.Goals as goal

pub copier_of-copier-requires : goal.copier_of-copier-requires
copier_of-copier-requires c = subst (λ n. c.args.id.part < n) (sym c.requires.types.count) (known_part c.args.parts.now c.args.id c.requires.entry)

pub add_function-requires-clause-known : goal.add_function-requires-clause-known
add_function-requires-clause-known c =
    let parts = c.args.parts.now in
    let i = c.args.id.part in
    let a = c.arena_of-arena.result.now in
    let b = c.args.into.now.arena in
    let t = c.copier_of-copier.result.now in
    let f = c.function-function.result.now in
    let at = subst (λ n. slice_get a.functions n ≡ Some f) c.new.ensures c.function-function.ensures in
    let known = all_get (KnowsFunction _ _) a.functions c.args.id.number f c.variable_count-good.ensures.good.functions at in
    let h = c.requires.types.types i a t c.arena_of-arena.ensures.arena c.copier_of-copier.ensures in
    let is = subst (λ n. IsType b n (linked_type (modules parts) i (type_at (trees a.table) f.result))) (sym c.new_type.ensures) (type_there parts i a b t h f.result known.result_known) in
    let are = c.in_ok-parameters.ensures (modules parts) i a b h known.parameters_known in
    let d : the_function.Function = record { name = c.in_ok-name.name; linkage = c.args.linkage; result = c.new_type.result; parameters = c.in_ok-parameters.parameters; variadic = f.variadic; body = None } in
    function_known b d is.known are.known refl

pub add_function-requires-clause-free : goal.add_function-requires-clause-free
add_function-requires-clause-free c =
    let a = c.arena_of-arena.result.now in
    let b = c.args.into.now.arena in
    let f = c.function-function.result.now in
    let at = subst (λ n. slice_get a.functions n ≡ Some f) c.new.ensures c.function-function.ensures in
    let room = subst (HasRoom b) (function_declared c.args.parts.now c.args.id a c.arena_of-arena.ensures.arena c.args.name.now f c.requires.function at c.args.linkage) c.requires.room in
    subst (IsFree b) (sym c.in_ok-name.ensures) room.free

pub add_function-requires-clause-few : goal.add_function-requires-clause-few
add_function-requires-clause-few c =
    let a = c.arena_of-arena.result.now in
    let b = c.args.into.now.arena in
    let f = c.function-function.result.now in
    let at = subst (λ n. slice_get a.functions n ≡ Some f) c.new.ensures c.function-function.ensures in
    let room = subst (HasRoom b) (function_declared c.args.parts.now c.args.id a c.arena_of-arena.ensures.arena c.args.name.now f c.requires.function at c.args.linkage) c.requires.room in
    room.few

pub returns : goal.returns
returns c =
    let parts = c.args.parts.now in
    let i = c.args.id.part in
    let a = c.arena_of-arena.result.now in
    let b = c.args.into.now.arena in
    let now = c.add_function.new.into.arena in
    let tables = c.args.copiers.now in
    let t = c.copier_of-copier.result.now in
    let f = c.function-function.result.now in
    let there = c.arena_of-arena.ensures.arena in
    let at = subst (λ n. slice_get a.functions n ≡ Some f) c.new.ensures c.function-function.ensures in
    let known = all_get (KnowsFunction _ _) a.functions c.args.id.number f c.variable_count-good.ensures.good.functions at in
    let h = c.requires.types.types i a t there c.copier_of-copier.ensures in
    let is = subst (λ n. IsType b n (linked_type (modules parts) i (type_at (trees a.table) f.result))) (sym c.new_type.ensures) (type_there parts i a b t h f.result known.result_known) in
    let are = c.in_ok-parameters.ensures (modules parts) i a b h known.parameters_known in
    let d : the_function.Function = record { name = c.in_ok-name.name; linkage = c.args.linkage; result = c.new_type.result; parameters = c.in_ok-parameters.parameters; variadic = f.variadic; body = None } in
    let df = declared_function parts c.args.id a there c.args.name.now f c.requires.function at c.args.linkage in
    let same = function_is parts c.args.id a there c.args.name.now f c.requires.function at df b c.in_ok-name.name c.args.linkage c.new_type.result c.in_ok-parameters.parameters refl refl refl c.in_ok-name.ensures is are in
    let step = c.in_ok-new.ensures in
    subst (λ g. IsDeclared parts b now tables g c.in_ok-new.new) (sym (function_declared parts c.args.id a there c.args.name.now f c.requires.function at c.args.linkage))
    (function_more parts tables b b now (grows_not b) c.requires.types c.in_ok-new.new d df same step.id step.lists step.module)
