use Rattle.std.proofs.Common.{◌&&◌, ◌||◌, not, List, sym, ap, ◌∙◌}
use Rattle.std.specs.List.{list_all}
use Rattle.std.proofs.lemmas.List.Folds.{list_all-map}
use Rattle.type_table.specs.Types.{Types, tree, trees, structs}
use Rattle.module_arena.specs.EntryRules.{return_suits}
use Rattle.module_arena.specs.Module as modules
use Rattle.module_arena.specs.TypeTests.{is_passable}
use Rattle.module_arena.specs.View.{parameter_view}
use Rattle.module_arena.specs.declared.entry.Parameter as the_parameter
use Rattle.module_arena.proofs.HostTypesAgree.{none_told}
use Rattle.entry_verify.proofs.OnEntries.EntriesFound.{none-map}
use Rattle.entry_verify.proofs.entries.types.function_types_suit.Goals as goal

pub returns : goal.returns
returns c =
    let t = c.args.judge.now.table in
    let f = c.args.function.now in
    let taken = c.parameters_suit-taken.ensures
    ∙ ap (λ (ps : List the_parameter.Parameter). list_all (λ (p : the_parameter.Parameter). is_passable (structs c.types-types.result.now) (tree c.types-types.result.now p.ty)) ps) c.as_slice.ensures
    ∙ ap (λ (u : Types). list_all (λ (p : the_parameter.Parameter). is_passable (structs u) (tree u p.ty)) f.parameters) c.types-types.ensures
    ∙ sym (list_all-map (λ (p : modules.Parameter). is_passable (structs t) p.ty) (parameter_view (trees t)) f.parameters) in
    let returned = c.return_suits-returned.ensures ∙ ap (λ (u : Types). return_suits (structs u) (tree u f.result)) c.types-types.ensures in
    let declared = none_told f.body c.is_none-declared.result c.is_none-declared.ensures ∙ none-map _ f.body in
    λ j. taken j && (returned j && (not f.variadic || declared j))
