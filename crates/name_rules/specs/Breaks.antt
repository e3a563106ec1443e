-- For `resolve` and `judge`: why items are no module: the first thing that they ask for in vain.
use Rattle.std.specs.Prelude.{ℕ, nat_le, true, false, List, [], ◌∷◌, ◌++◌, length, filter_map, flat_map, map, Option, Some, None}
use Rattle.ir_base.specs.declared.place.Place.{Place}
use Rattle.ir_terminals.specs.declared.values.PlacedName.{PlacedName}
use Rattle.ir_phrases.specs.Constants.Tree.{TypeTree, ConstantTree}
use Rattle.ir_syntax.specs.Tree.{ItemTree, VariableTree, AliasTypeTree, PlainAlias, FunctionAlias, AliasTree, HeadTree, SourceFilename, DataLayout, TargetTriple, Struct, Variable, Alias, Declaration, Definition, Attributes, Metadata}
use Rattle.module_arena.specs.declared.arena.TheConstants.{COUNT_LIMIT}
use Rattle.module_arena.specs.declared.fault.CountKind.{CountKind}
use Rattle.module_arena.specs.declared.fault.CountKind.TheVariants as kinds
use Rattle.module_arena.specs.Known.{counted_aliases}
use Rattle.module_arena.specs.Module.{Bytes}
use Rattle.name_rules.specs.declared.fault.ResolveFault.{ResolveFault}
use Rattle.name_rules.specs.declared.fault.ResolveFault.TheVariants as faults
use Rattle.name_rules.specs.Written.{type_in}
use Rattle.name_rules.specs.ModuleOf.{first_of, structs_in, variable_in, alias_in, function_in}
use Rattle.name_rules.specs.Measured.{struct_measures}
use Rattle.name_rules.specs.Demand.{Demand, first_refusal, first_there, is_first, is_new}
use Rattle.name_rules.specs.TypeDemands.{Known, is_global, type_demands, struct_demands, constant_demands}
use Rattle.name_rules.specs.FunctionDemands.{alignment_demands, definition_demands}

-- the token that names a struct
abbrev pub struct_name : ItemTree → Option PlacedName
struct_name (Struct name body) = Some name
struct_name _ = None

-- the token that names a variable, an alias or a function
abbrev pub global_name : ItemTree → Option PlacedName
global_name (Variable variable) = Some variable.name
global_name (Alias alias) = Some alias.name
global_name (Declaration place head parameters variadic) = Some head.name
global_name (Definition place head parameters blocks) = Some head.name
global_name _ = None

-- the names of the variables, aliases and functions of a text
abbrev pub global_names : List ItemTree → List Bytes
global_names items = map (λ (n : PlacedName). n.name) (filter_map global_name items)

-- the place of `source_filename`
abbrev pub source_place : ItemTree → Option Place
source_place (SourceFilename place text) = Some place
source_place _ = None

-- the place of `datalayout`
abbrev pub layout_place : ItemTree → Option Place
layout_place (DataLayout place text) = Some place
layout_place _ = None

-- the place of `triple`
abbrev pub triple_place : ItemTree → Option Place
triple_place (TargetTriple place text) = Some place
triple_place _ = None

-- what the items define, at whichever place
abbrev pub known_in : List ItemTree → Known
known_in items = record {
  structs = structs_in items;
  measures = struct_measures (structs_in items);
  globals = global_names items;
}

module _ (known : Known) where
  -- what an initialiser asks for, at the type of its variable
  abbrev pub initialiser_demands : TypeTree → Option ConstantTree → List Demand
  initialiser_demands ty None = []
  initialiser_demands ty (Some constant) = constant_demands known (type_in ty) constant

  -- what stands behind the name of a variable
  abbrev pub content_demands : VariableTree → List Demand
  content_demands variable = type_demands known variable.ty ++ (initialiser_demands variable.ty variable.initialiser ++ alignment_demands variable.alignment)

  -- what a variable asks for, behind globals of these names
  abbrev pub variable_demands : List PlacedName → VariableTree → List Demand
  variable_demands before variable = is_new before variable.name ++ content_demands variable

  -- what the type of an alias asks for
  abbrev pub alias_type_demands : AliasTypeTree → List Demand
  alias_type_demands (PlainAlias ty) = type_demands known ty
  alias_type_demands (FunctionAlias returns parameters variadic) = type_demands known returns ++ flat_map (type_demands known) parameters

  -- what an alias asks for, behind globals of these names: a name of its own, its type, and that its target is there
  abbrev pub alias_demands : List PlacedName → AliasTree → List Demand
  alias_demands before alias = is_new before alias.name ++ (alias_type_demands alias.ty ++ is_global known alias.target ∷ [])

  -- what the head of a function asks for, behind globals of these names: its return type, then a name of its own
  abbrev pub head_demands : List PlacedName → HeadTree → List Demand
  head_demands before head = type_demands known head.returns ++ is_new before head.name

  -- what an item asks for behind these, in the order of its tokens
  abbrev pub item_demands : List ItemTree → ItemTree → List Demand
  item_demands before (SourceFilename place text) = is_first place (first_of (filter_map source_place before))
  item_demands before (DataLayout place text) = is_first place (first_of (filter_map layout_place before))
  item_demands before (TargetTriple place text) = is_first place (first_of (filter_map triple_place before))
  item_demands before (Struct name body) = struct_demands known (filter_map struct_name before) name body
  item_demands before (Variable variable) = variable_demands (filter_map global_name before) variable
  item_demands before (Alias alias) = alias_demands (filter_map global_name before) alias
  item_demands before (Declaration place head parameters variadic) = head_demands (filter_map global_name before) head ++ flat_map (type_demands known) parameters
  item_demands before (Definition place head parameters blocks) = head_demands (filter_map global_name before) head ++ definition_demands known parameters blocks
  item_demands before (Attributes place) = []
  item_demands before (Metadata place) = []

  -- what items ask for behind these
  abbrev pub demands_behind : List ItemTree → List ItemTree → List Demand
  demands_behind before [] = []
  demands_behind before (item ∷ more) = item_demands before item ++ demands_behind (before ++ item ∷ []) more

-- all that the items of a text ask for, in the order of the text
abbrev pub demands : List ItemTree → List Demand
demands items = demands_behind (known_in items) [] items

-- how many structs, variables, functions or aliases a module has at most
abbrev pub most : ℕ
most = COUNT_LIMIT

-- there are no more than that, and what further counts say
abbrev pub no_more : CountKind → ℕ → Option ResolveFault → Option ResolveFault
no_more kind count further = elim (nat_le count most) [ true ↦ further | false ↦ Some (faults.TooMany kind count) ]

-- too many structs, else variables, else functions, else aliases
abbrev pub too_many : List ItemTree → Option ResolveFault
too_many items =
    let variables = length (filter_map variable_in items) in
    let functions = length (filter_map function_in items) in
    no_more kinds.Structs (length (structs_in items))
    (no_more kinds.Variables variables
    (no_more kinds.Functions functions
    (no_more kinds.Aliases (counted_aliases (length (filter_map alias_in items)) variables functions) None)))

-- the refusal of items that are no module: too many of a kind, else the first demand in the order of the text
abbrev pub first_break : List ItemTree → Option ResolveFault
first_break items = first_there (too_many items) (first_refusal (demands items))
