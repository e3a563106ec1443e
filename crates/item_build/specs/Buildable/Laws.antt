-- For `items_without_a_break_are_buildable`, `build_structs`, `declare_items`, `initialise_items` and `set_targets`: what
-- items have where an arena can be built from them, entry by entry.
use Rattle.std.specs.Prelude.{◌≡◌, ◌≤◌, true, List, map, filter_map, length, All, Contains, bytes_eq}
use Rattle.ir_tables.specs.Table.{is_distinct}
use Rattle.ir_syntax.specs.Tree.{ItemTree}
use Rattle.module_arena.specs.declared.arena.TheConstants.{COUNT_LIMIT}
use Rattle.module_arena.specs.Lists.{Lists}
use Rattle.module_arena.specs.Module.{Bytes}
pub use Rattle.name_rules.specs.Breaks.{global_names}
use Rattle.name_rules.specs.ModuleOf.{structs_in, variable_in, function_in}
use Rattle.item_build.specs.Types.Holding.{HasEntry}
use Rattle.item_build.specs.Buildable.Entries.{CanDeclare, CanComplete}

-- an entry has each of these names
abbrev pub HasEntries : Lists → List Bytes → Type 0
HasEntries entries names = (name : Bytes) → Contains names name → HasEntry entries name

-- Items from which an arena can be built.
pub record AreBuildable (items : List ItemTree) : Type 0 where
  pub structs : is_distinct bytes_eq (map (λ (s : Bytes × _). s.0) (structs_in items)) ≡ true
  pub globals : is_distinct bytes_eq (global_names items) ≡ true
  pub few_structs : length (structs_in items) ≤ COUNT_LIMIT
  pub few_variables : length (filter_map variable_in items) ≤ COUNT_LIMIT
  pub few_functions : length (filter_map function_in items) ≤ COUNT_LIMIT
  pub declared : All (CanDeclare (structs_in items)) items
  pub completed : (entries : Lists) → HasEntries entries (global_names items) → All (CanComplete (structs_in items) entries) items
