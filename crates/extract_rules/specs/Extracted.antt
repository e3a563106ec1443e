-- For `extract`, `kept_linkage`, `fates_give_the_part` and `extraction_keeps_modules`: the module of the kept definitions, and of declarations for what they name.
use Rattle.std.specs.Prelude.{Bool, not, ◌&&◌, bytes_eq, List, ◌++◌, map, filter, filter_map, flat_map, Option, Some, None, if◌then◌else◌}
use Rattle.std.specs.List.{list_any}
use Rattle.ir_tables.specs.declared.linkage.Linkage.{Linkage}
use Rattle.ir_tables.specs.declared.linkage.Linkage.TheVariants.{External, Private, Internal, Appending, ExternWeak}
use Rattle.type_table.specs.Tree.{Tree, array}
use Rattle.module_arena.specs.Functions.{numbered_parameters}
use Rattle.module_arena.specs.Module.{Bytes, Aggregate, Square, no_constants, Variable, AliasType, PlainType, FunctionType, Alias, Function, Module}
use Rattle.module_arena.specs.UsedNames.{names_in_variable, names_in_function}
use Rattle.extract_rules.specs.declared.selection.Selection.{Selection}
use Rattle.extract_rules.specs.Selected.{is_among, keeps_variable, keeps_function, keeps_alias}

-- the names in the kept definitions; an alias is kept with its target, so that it needs no declaration
abbrev pub kept_names : Module → Selection → List Bytes
kept_names m s = flat_map names_in_variable (filter (keeps_variable m s) m.variables) ++ flat_map names_in_function (filter (keeps_function m s) m.functions)

-- the linkage of a definition that stays
abbrev pub kept_linkage : Linkage → Linkage
kept_linkage Private = External
kept_linkage Internal = External
kept_linkage linkage = linkage

-- the linkage of a declaration
abbrev pub declared_linkage : Linkage → Linkage
declared_linkage ExternWeak = ExternWeak
declared_linkage linkage = External

-- an array of the same elements, but of none
abbrev pub without_elements : Tree → Tree
without_elements (array n t) = array 0 t
without_elements t = t

-- an appending variable is one of no elements, and any other a declaration
abbrev pub declared_variable : Linkage → Variable → Variable
declared_variable Appending v = record v { ty = without_elements v.ty; initialiser = Some (Aggregate Square no_constants) }
declared_variable linkage v = record v { linkage = declared_linkage linkage; initialiser = None }

-- the parameters of a declaration have the numbers from 0 as names
abbrev pub declared_function : Function → Function
declared_function f = record f { linkage = declared_linkage f.linkage; parameters = numbered_parameters 0 (map (λ p. p.ty) f.parameters); body = None }

-- the variable of that name is never written
abbrev pub is_constant : Module → Bytes → Bool
is_constant m name = list_any (λ v. bytes_eq name v.name && v.constant) m.variables

-- an alias as a declaration of its type, as constant as its target
abbrev pub alias_as_variable : Module → Bytes → Bytes → AliasType → Option Variable
alias_as_variable m name target (PlainType t) =
    Some (record { name = name; linkage = External; constant = is_constant m target; ty = t; alignment = None; initialiser = None })
alias_as_variable m name target (FunctionType signature) = None

-- the same of an alias of a function
abbrev pub alias_as_function : Bytes → AliasType → Option Function
alias_as_function name (PlainType t) = None
alias_as_function name (FunctionType signature) = Some (record {
  name = name;
  linkage = External;
  returns = signature.returns;
  parameters = numbered_parameters 0 signature.parameters;
  variadic = signature.variadic;
  body = None;
})

-- a variable as it is kept, if it is
abbrev pub extracted_variable : Module → Selection → Variable → Option Variable
extracted_variable m s v =
    if keeps_variable m s v then Some (record v { linkage = kept_linkage v.linkage })
    else (if is_among (kept_names m s) v.name then Some (declared_variable v.linkage v) else None)

-- a function as it is kept, if it is
abbrev pub extracted_function : Module → Selection → Function → Option Function
extracted_function m s f =
    if keeps_function m s f then Some (record f { linkage = kept_linkage f.linkage })
    else (if is_among (kept_names m s) f.name then Some (declared_function f) else None)

-- an alias as it is kept, if it is
abbrev pub extracted_alias : Module → Selection → Alias → Option Alias
extracted_alias m s a = if keeps_alias m s a then Some (record a { linkage = kept_linkage a.linkage }) else None

-- the aliases that are named and not kept
abbrev pub declared_aliases : Module → Selection → List Alias
declared_aliases m s = filter (λ a. not (keeps_alias m s a) && is_among (kept_names m s) a.name) m.aliases

-- texts and structs stay, and so does the order; aliases that become declarations stand behind all variables or functions
abbrev pub Extracted : Module → Selection → Module
Extracted m s = record m {
  variables = filter_map (extracted_variable m s) m.variables ++ filter_map (λ a. alias_as_variable m a.name a.target a.ty) (declared_aliases m s);
  aliases = filter_map (extracted_alias m s) m.aliases;
  functions = filter_map (extracted_function m s) m.functions ++ filter_map (λ a. alias_as_function a.name a.ty) (declared_aliases m s);
}
