-- For all calls of `Arena`: what a contract sees of one: the lists of a module, with ids in place of names.
use Rattle.std.specs.Prelude.{ℕ, List, [], ◌++◌, Option, None, map, slice_get, slice_index_or}
use Rattle.std.specs.Option.{option_map, option_map_or}
use Rattle.type_table.specs.Types.{Types, no_types}
use Rattle.module_arena.specs.declared.constant.Const.{Const}
use Rattle.module_arena.specs.declared.entry.GlobalId.{GlobalId}
use Rattle.module_arena.specs.declared.entry.GlobalId.TheVariants as global
use Rattle.module_arena.specs.declared.entry.Variable.{Variable}
use Rattle.module_arena.specs.declared.entry.Alias.{Alias}
use Rattle.module_arena.specs.declared.entry.Function.{Function}
use Rattle.module_arena.specs.declared.entry.Block.{Block}
use Rattle.module_arena.specs.declared.entry.LocalName.{LocalName}

-- the lists of an arena
pub record Lists : Type 0 where
  pub source : Option (List ℕ)
  pub layout : Option (List ℕ)
  pub triple : Option (List ℕ)
  pub table : Types
  pub constants : List Const
  pub variables : List Variable
  pub aliases : List Alias
  pub functions : List Function

-- those of an arena without entries
abbrev pub no_lists : Lists
no_lists = record { source = None; layout = None; triple = None; table = no_types; constants = []; variables = []; aliases = []; functions = [] }

-- the name of the entry with that id, where there is one
abbrev pub global_name : Lists → GlobalId → Option (List ℕ)
global_name a (global.Variable id) = option_map (λ v. v.name) (slice_get a.variables id)
global_name a (global.Function id) = option_map (λ f. f.name) (slice_get a.functions id)
global_name a (global.Alias id) = option_map (λ x. x.name) (slice_get a.aliases id)

-- the same, for an entry that is there
abbrev pub name_at : Lists → GlobalId → List ℕ
name_at a (global.Variable id) = slice_index_or (map (λ v. v.name) a.variables) id []
name_at a (global.Function id) = slice_index_or (map (λ f. f.name) a.functions) id []
name_at a (global.Alias id) = slice_index_or (map (λ x. x.name) a.aliases) id []

-- the names of the parameters, and then of the results
abbrev pub value_names : Function → List LocalName
value_names f = map (λ p. p.name) f.parameters ++ option_map_or (λ b. b.results) f.body []

-- the blocks of a function; a declaration has none
abbrev pub function_blocks : Function → List Block
function_blocks f = option_map_or (λ b. b.blocks) f.body []
