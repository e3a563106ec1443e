-- There may be as many variables, aliases and functions as items have that break no rule.
use Rattle.std.proofs.Common.{◌≡◌, cond, List, length, Some, None}
use Rattle.std.specs.List.{filter_map}
use Rattle.std.proofs.lemmas.Bool.{le-ltb}
use Rattle.ir_syntax.specs.Tree.{ItemTree}
use Rattle.module_arena.specs.declared.fault.CountKind.TheVariants as kinds
use Rattle.module_arena.specs.Known.{counted_aliases}
use Rattle.name_rules.specs.ModuleOf.{variable_in, alias_in, function_in}
use Rattle.name_rules.specs.Breaks.{first_break}
use Rattle.name_rules.proofs.Fine.{unbroken}
use Rattle.item_build.specs.Types.Declarations.{AreFew}
use Rattle.ir_resolve.proofs.OnBuildsWell.Buildable.{counts_fit}

pub few_counted : (items : List ItemTree) → first_break items ≡ None
    → AreFew (record { variables = length (filter_map variable_in items); aliases = length (filter_map alias_in items); functions = length (filter_map function_in items) })
few_counted items e =
    let counts = counts_fit items (unbroken items e).0 in
    let variables = length (filter_map variable_in items) in
    let functions = length (filter_map function_in items) in
    let aliases = counted_aliases (length (filter_map alias_in items)) variables functions in
    λ j. cond (le-ltb 262144 variables counts.variables j) (Some (kinds.Variables, variables))
    (cond (le-ltb 262144 functions counts.functions j) (Some (kinds.Functions, functions))
    (cond (le-ltb 262144 aliases counts.aliases j) (Some (kinds.Aliases, aliases)) None))
