use Rattle.std.proofs.Common.{◌&&◌, sym, ap, ◌∙◌}
use Rattle.std.specs.Option.{option_map}
use Rattle.type_table.specs.Types.{Types, tree, structs}
use Rattle.module_arena.specs.EntryRules.{variable_type_suits}
use Rattle.module_arena.specs.TypeTests.{is_free_of_void, lies_in_memory}
use Rattle.module_arena.specs.View.{constant_at, constants_of}
use Rattle.entry_verify.proofs.entries.initialisers.variable_types_suit.Goals as goal

pub returns-in-Some : goal.returns-in-Some
returns-in-Some c =
    let a = c.args.judge.now in
    (λ j. (c.lies_in_memory.ensures ∙ ap (λ (u : Types). lies_in_memory (structs u) (tree u c.args.ty)) c.types-types.ensures) j && c.types_suit.ensures (tree a.table c.args.ty) j)
    ∙ ap (λ o. variable_type_suits (structs a.table) (tree a.table c.args.ty) (option_map (constant_at (constants_of a)) o)) (sym c.in-Some.is)

pub returns-in-None : goal.returns-in-None
returns-in-None c =
    let a = c.args.judge.now in
    c.is_free_of_void.ensures
    ∙ ap (λ (u : Types). is_free_of_void (tree u c.args.ty)) c.types-types.ensures
    ∙ ap (λ o. variable_type_suits (structs a.table) (tree a.table c.args.ty) (option_map (constant_at (constants_of a)) o)) (sym c.in-None.is)
