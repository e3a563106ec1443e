-- Extracted modules with aliases, on examples.
use Rattle.std.specs.Prelude.{◌≡◌, true, false, [], ◌∷◌, codes, Some, None, refl}
use Rattle.ir_tables.specs.declared.linkage.Linkage.TheVariants.{External, Internal, Private}
use Rattle.type_table.specs.Tree.{ptr}
use Rattle.module_arena.specs.Module.{Integer, Address, Store, Load, Return, Variable, AliasType, PlainType, Function, Module}
use Rattle.module_arena.specs.Write.{i32, result, number, at, typed, gives, does, calls, block, variable, function, just, alias, type_of_function, module_of}
use Rattle.extract_rules.specs.declared.selection.Selection.{Selection}
use Rattle.extract_rules.specs.Selected.{no_such_symbol}
use Rattle.extract_rules.specs.Extracted.{Extracted}

abbrev nothing : Selection
nothing = record { functions = []; variables = []; aliases = []; delete = false; recursive = false }

-- main writes x by its other name, and reads it
abbrev main : Function
main = function External i32 "main" [] (Some (block 0
    (does (Store 0 (typed i32 (number 6)) (typed ptr (at "y")) None) ∷ gives 1 (Load 0 i32 (typed ptr (at "x")) None) ∷ [])
    (Return (typed i32 (result 1))) ∷ []))

abbrev x : Variable
x = variable External "x" i32 (Some (Integer 5))

abbrev pub two_names : Module
two_names = record (module_of [] (x ∷ []) (main ∷ [])) { aliases = alias External "y" (PlainType i32) "x" ∷ [] }

abbrev pub only_y : Selection
only_y = record nothing { aliases = codes "y" ∷ [] }

pub with_target : Extracted two_names only_y ≡ record two_names { functions = [] }
with_target = refl

pub others : Extracted two_names (record only_y { delete = true }) ≡ module_of [] (variable External "x" i32 None ∷ variable External "y" i32 None ∷ []) (main ∷ [])
others = refl

-- a target is chosen with its aliases
pub with_aliases : Extracted two_names (record nothing { variables = codes "x" ∷ [] }) ≡ record two_names { functions = [] }
with_aliases = refl

pub neither : Extracted two_names (record nothing { functions = codes "main" ∷ [] }) ≡ module_of [] (variable External "x" i32 None ∷ variable External "y" i32 None ∷ []) (main ∷ [])
neither = refl

-- NAMES THAT ARE NOT THERE: aliases last, and no other option names one

pub missing_last : no_such_symbol two_names (record { functions = codes "main" ∷ []; variables = codes "x" ∷ []; aliases = codes "y" ∷ codes "x" ∷ []; delete = false; recursive = false }) ≡ Some (codes "x")
missing_last = refl

pub missing_variable : no_such_symbol two_names (record { functions = []; variables = codes "y" ∷ []; aliases = codes "nope" ∷ []; delete = false; recursive = false }) ≡ Some (codes "y")
missing_variable = refl

pub missing_function : no_such_symbol two_names (record { functions = codes "y" ∷ []; variables = codes "nope" ∷ []; aliases = []; delete = false; recursive = false }) ≡ Some (codes "y")
missing_function = refl

-- FUNCTIONS: f calls h by its alias g, h reads the constant v by its alias w

abbrev returns_i32 : AliasType
returns_i32 = type_of_function i32 []

abbrev f : Function
f = function External i32 "f" [] (Some (block 0 (gives 1 (calls i32 "g" []) ∷ []) (Return (typed i32 (result 1))) ∷ []))

abbrev h : Function
h = function Internal i32 "h" [] (Some (block 0 (gives 1 (Load 0 i32 (typed ptr (at "w")) None) ∷ []) (Return (typed i32 (result 1))) ∷ []))

abbrev v : Variable
v = record (variable Private "v" i32 (Some (Integer 4))) { constant = true }

abbrev m : Module
m = record (module_of [] (v ∷ variable External "p" ptr (Some (Address (codes "g"))) ∷ []) (f ∷ h ∷ function Internal i32 "k" [] (just 1) ∷ [])) {
  aliases = alias Internal "g" returns_i32 "h" ∷ alias Internal "w" (PlainType i32) "v" ∷ alias Private "unused" returns_i32 "h" ∷ [];
}

abbrev with_f : Selection
with_f = record nothing { functions = codes "f" ∷ []; recursive = true }

-- what is called by an alias is chosen with all its aliases, a local alias becomes external as a local definition does, and
-- an alias that is not kept is as constant as its target
pub called_by_alias : Extracted m with_f ≡ record (module_of [] (record (variable External "w" i32 None) { constant = true } ∷ []) (f ∷ record h { linkage = External } ∷ [])) {
  aliases = alias External "g" returns_i32 "h" ∷ alias External "unused" returns_i32 "h" ∷ [];
}
called_by_alias = refl

-- an alias of a function that is not kept stands behind all functions
pub not_recursive : Extracted m (record with_f { recursive = false }) ≡ module_of [] [] (f ∷ function External i32 "g" [] None ∷ [])
not_recursive = refl

-- with `delete` all others are kept
pub all_others : Extracted m (record with_f { delete = true }) ≡ record (module_of [] (record v { linkage = External } ∷ variable External "p" ptr (Some (Address (codes "g"))) ∷ []) (function External i32 "k" [] (just 1) ∷ function External i32 "g" [] None ∷ [])) {
  aliases = alias External "w" (PlainType i32) "v" ∷ [];
}
all_others = refl

-- an alias that is selected brings what its target calls
pub from_alias : Extracted m (record nothing { aliases = codes "unused" ∷ []; recursive = true }) ≡ record (module_of [] (record (variable External "w" i32 None) { constant = true } ∷ []) (record h { linkage = External } ∷ [])) {
  aliases = alias External "g" returns_i32 "h" ∷ alias External "unused" returns_i32 "h" ∷ [];
}
from_alias = refl
