use Rattle.std.proofs.Common.{None, map, refl, sym, subst, ap, ◌∙◌, arith}
use Rattle.module_arena.specs.declared.entry.Function as the_function
use Rattle.type_table.specs.Types.{trees}
use Rattle.module_arena.specs.Changes.{with_function, more_functions}
use Rattle.module_arena.specs.View.{parameter_view}
use Rattle.module_arena.specs.Known.{counts}
use Rattle.module_arena.specs.Lists.{Lists}
use Rattle.item_build.specs.Types.Declarations.{IsFree}
use Rattle.item_build.proofs.OnTypes.Declaring.{memory_alone, free_still, few_functions_still}
use Rattle.item_build.proofs.OnTypes.Parameters.{parameters_stay}
use Rattle.item_build.proofs.types.functions.declare_head.Goals as goal

pub entry_out_of_memory-requires : goal.entry_out_of_memory-requires
entry_out_of_memory-requires c =
    let a = c.args.builder.now.arena in
    let b = c.add_type.new.self.arena in
    let grows = c.in_ok-result.ensures.grows in
    let f : the_function.Function = record { name = c.in_ok-name.name; linkage = c.linkage_of.result; result = c.in_ok-result.result; parameters = c.args.parameters; variadic = c.args.variadic; body = None } in
    memory_alone b c.in_ok-name.name (counts (with_function b f)) c.in-Err.fault c.in-Err.ensures.fault
    (subst (IsFree b) (sym c.in_ok-name.ensures) (free_still a b grows c.args.head.now.name.name c.requires.free))
    (few_functions_still a b grows f c.requires.few)

pub declare_function-requires-clause-known : goal.declare_function-requires-clause-known
declare_function-requires-clause-known c =
    let a = c.args.builder.now.arena in
    let b = c.add_type.new.self.arena in
    let ps = c.args.parameters in
    let stay = parameters_stay a b c.in_ok-result.ensures.grows ps (map (parameter_view (trees a.table)) ps) (record { known = c.requires.known; parameters = refl }) in
    record { result_known = c.in_ok-result.ensures.is.known; parameters_known = stay.known; body_known = λ k d lt. absurd (omega arith) }

pub returns-in-Ok-clause-module : goal.returns-in-Ok-clause-module
returns-in-Ok-clause-module c =
    let a = c.args.builder.now.arena in
    let b = c.add_type.new.self.arena in
    let ps = c.args.parameters in
    let grows = c.in_ok-result.ensures.grows in
    let stay = parameters_stay a b grows ps (map (parameter_view (trees a.table)) ps) (record { known = c.requires.known; parameters = refl }) in
    c.in-Ok.ensures.module
    ∙ (λ j. more_functions (grows.same j) (record { name = c.in_ok-name.ensures j; linkage = c.linkage_of.ensures j; returns = c.in_ok-result.ensures.is.tree j; parameters = stay.parameters j; variadic = c.args.variadic; body = None }))

pub returns-in-Ok-clause-aliases : goal.returns-in-Ok-clause-aliases
returns-in-Ok-clause-aliases c = ap (λ (a : Lists). a.aliases) c.in-Ok.ensures.ok ∙ c.in_ok-result.ensures.grows.aliases
