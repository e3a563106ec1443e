-- For `all_fates`: what becomes of each entry of a module, kept, declared or left out, and the module that this gives.
use Rattle.std.specs.Prelude.{◌≡◌, length, Bool, true, false, List, [], ◌∷◌, ◌++◌, map, Option, Some, None}
use Rattle.std.specs.List.{cons_option}
use Rattle.ir_tables.specs.declared.linkage.Linkage.{Linkage}
use Rattle.ir_tables.specs.declared.linkage.Linkage.TheVariants.{Appending}
use Rattle.type_table.specs.Tree.{Tree}
use Rattle.module_arena.specs.Functions.{numbered_parameters}
use Rattle.module_arena.specs.Lists.{Lists}
use Rattle.module_arena.specs.Module.{Parameter, Variable, Alias, Function, Module}
use Rattle.extract_rules.specs.declared.selection.Selection.{Selection}
use Rattle.extract_rules.specs.Selected.{is_among, keeps_variable, keeps_function, keeps_alias}
use Rattle.extract_rules.specs.Extracted.{kept_names, kept_linkage, declared_linkage, without_elements, declared_variable, declared_function, alias_as_variable, alias_as_function}
use Rattle.extract_core.specs.declared.fates.fates.Fate.{Fate}
use Rattle.extract_core.specs.declared.fates.fates.Fate.TheVariants.{Kept, Declared, LeftOut}
use Rattle.extract_core.specs.declared.fates.fates.Fates.{Fates}

-- ---- the fate of an entry

-- an entry is kept where it is chosen, declared where only kept definitions name it, and else left out
abbrev pub fate_of : (is_kept is_named : Bool) → Fate
fate_of true is_named = Kept
fate_of false true = Declared
fate_of false false = LeftOut

-- the fates of entries of one kind, from what is kept and what is named of them
abbrev pub fates_of : (kept named : List Bool) → List Fate
fates_of [] named = []
fates_of (is_kept ∷ kept) [] = []
fates_of (is_kept ∷ kept) (is_named ∷ named) = fate_of is_kept is_named ∷ fates_of kept named

-- of a variable
abbrev pub variable_fate : Module → Selection → Variable → Fate
variable_fate m s v = fate_of (keeps_variable m s v) (is_among (kept_names m s) v.name)

-- of a function
abbrev pub function_fate : Module → Selection → Function → Fate
function_fate m s f = fate_of (keeps_function m s f) (is_among (kept_names m s) f.name)

-- of an alias
abbrev pub alias_fate : Module → Selection → Alias → Fate
alias_fate m s a = fate_of (keeps_alias m s a) (is_among (kept_names m s) a.name)

-- the fates of all entries, by kind and in the order of the module
pub record AreFates (m : Module) (s : Selection) (fates : Fates) : Type 0 where
  pub variables : fates.variables ≡ map (variable_fate m s) m.variables
  pub functions : fates.functions ≡ map (function_fate m s) m.functions
  pub aliases : fates.aliases ≡ map (alias_fate m s) m.aliases

-- ---- what an entry becomes

-- a variable that is kept is seen from outside; one that is declared has no initialiser, or an empty array where it is appending
abbrev pub variable_as : Fate → Variable → Option Variable
variable_as Kept v = Some (record v { linkage = kept_linkage v.linkage })
variable_as Declared v = Some (declared_variable v.linkage v)
variable_as LeftOut v = None

-- a function that is kept is seen from outside; one that is declared has no body, and numbers for the names of its parameters
abbrev pub function_as : Fate → Function → Option Function
function_as Kept f = Some (record f { linkage = kept_linkage f.linkage })
function_as Declared f = Some (declared_function f)
function_as LeftOut f = None

-- an alias that is kept stays an alias
abbrev pub alias_as : Fate → Alias → Option Alias
alias_as Kept a = Some (record a { linkage = kept_linkage a.linkage })
alias_as Declared a = None
alias_as LeftOut a = None

-- one that is declared becomes a variable where it is of one
abbrev pub alias_variable_as : Module → Fate → Alias → Option Variable
alias_variable_as m Kept a = None
alias_variable_as m Declared a = alias_as_variable m a.name a.target a.ty
alias_variable_as m LeftOut a = None

-- and a function where it is of one
abbrev pub alias_function_as : Fate → Alias → Option Function
alias_function_as Kept a = None
alias_function_as Declared a = alias_as_function a.name a.ty
alias_function_as LeftOut a = None

-- ---- the parts of an entry, by its fate

-- the linkage of a variable; a declared appending one stays appending
abbrev pub variable_linkage : Fate → Linkage → Linkage
variable_linkage Kept linkage = kept_linkage linkage
variable_linkage fate Appending = Appending
variable_linkage fate linkage = declared_linkage linkage

-- the linkage of a function
abbrev pub function_linkage : Fate → Linkage → Linkage
function_linkage Kept linkage = kept_linkage linkage
function_linkage fate linkage = declared_linkage linkage

-- a declared appending variable is emptied
abbrev pub is_emptied : Fate → Linkage → Bool
is_emptied Declared Appending = true
is_emptied fate linkage = false

-- the type of a variable
abbrev pub type_as : Bool → Tree → Tree
type_as true t = without_elements t
type_as false t = t

-- the parameters of a function
abbrev pub parameters_as : Fate → List Parameter → List Parameter
parameters_as Kept ps = ps
parameters_as fate ps = numbered_parameters 0 (map (λ p. p.ty) ps)

-- ---- the module

-- what the entries of a list become by their fates, in order
abbrev pub made : {A B : Type 0} → (Fate → A → Option B) → List Fate → List A → List B
made become [] xs = []
made become (fate ∷ fates) [] = []
made become (fate ∷ fates) (x ∷ xs) = cons_option (become fate x) (made become fates xs)

-- the variables, those of declared aliases behind them
abbrev pub variables_by : Module → Fates → List Variable
variables_by m fates = made variable_as fates.variables m.variables ++ made (alias_variable_as m) fates.aliases m.aliases

-- the functions, those of declared aliases behind them
abbrev pub functions_by : Module → Fates → List Function
functions_by m fates = made function_as fates.functions m.functions ++ made alias_function_as fates.aliases m.aliases

-- the aliases
abbrev pub aliases_by : Module → Fates → List Alias
aliases_by m fates = made alias_as fates.aliases m.aliases

-- texts and structs stay
abbrev pub part_by : Module → Fates → Module
part_by m fates = record m { variables = variables_by m fates; aliases = aliases_by m fates; functions = functions_by m fates }

-- ---- sizes

-- there is a fate for each entry
pub record AreSized (a : Lists) (fates : Fates) : Type 0 where
  pub variables : length fates.variables ≡ length a.variables
  pub functions : length fates.functions ≡ length a.functions
  pub aliases : length fates.aliases ≡ length a.aliases
