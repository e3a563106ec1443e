-- Says how the code reads: how many structs, variables, functions and aliases items have.
use Rattle.std.specs.Prelude.{◌≡◌, List, length, filter_map}
use Rattle.ir_syntax.specs.Tree.{ItemTree}
use Rattle.name_rules.specs.ModuleOf.{struct_in, variable_in, function_in, alias_in}
use Rattle.name_judge.specs.declared.counts.ItemCounts.{ItemCounts}

-- these are how many there are of each kind
pub record AreCounts (counts : ItemCounts) (items : List ItemTree) : Type 0 where
  pub structs : counts.structs ≡ length (filter_map struct_in items)
  pub variables : counts.variables ≡ length (filter_map variable_in items)
  pub functions : counts.functions ≡ length (filter_map function_in items)
  pub aliases : counts.aliases ≡ length (filter_map alias_in items)
