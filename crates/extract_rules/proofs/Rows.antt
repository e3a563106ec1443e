-- Extracted modules, on examples.
use Rattle.std.specs.Prelude.{◌≡◌, true, false, [], ◌∷◌, codes, Some, None, refl}
use Rattle.ir_tables.specs.declared.linkage.Linkage.TheVariants.{External, Internal, Appending, ExternWeak}
use Rattle.ir_tables.specs.declared.opcode.Opcode.TheVariants.{Add}
use Rattle.type_table.specs.Tree.{ptr, array}
use Rattle.module_arena.specs.Module.{Integer, Address, Aggregate, Square, BinaryOperation, Load, Return, Function, Module}
use Rattle.module_arena.specs.Write.{i32, result, at, typed, gives, calls, block, variable, function, just, module_of, constants}
use Rattle.extract_rules.specs.declared.selection.Selection.{Selection}
use Rattle.extract_rules.specs.Selected.{no_such_symbol}
use Rattle.extract_rules.specs.Extracted.{Extracted}

-- f calls h and reads v; main calls f
abbrev pub f : Function
f = function External i32 "f" [] (Some (block 0
    (gives 1 (calls i32 "h" []) ∷ gives 2 (Load 0 i32 (typed ptr (at "v")) None) ∷ gives 3 (BinaryOperation Add 0 (typed i32 (result 1)) (result 2)) ∷ [])
    (Return (typed i32 (result 3))) ∷ []))

abbrev pub main : Function
main = function External i32 "main" [] (Some (block 0 (gives 1 (calls i32 "f" []) ∷ []) (Return (typed i32 (result 1))) ∷ []))

abbrev pub m : Module
m = module_of [] (variable Internal "v" i32 (Some (Integer 4)) ∷ []) (function Internal i32 "h" [] (just 3) ∷ f ∷ main ∷ [])

abbrev pub with_f : Selection
with_f = record { functions = codes "f" ∷ []; variables = []; aliases = []; delete = false; recursive = true }

pub chosen : Extracted m with_f ≡ module_of [] (variable External "v" i32 None ∷ []) (function External i32 "h" [] (just 3) ∷ f ∷ [])
chosen = refl

pub others : Extracted m (record with_f { delete = true }) ≡ module_of [] (variable External "v" i32 (Some (Integer 4)) ∷ []) (function External i32 "f" [] None ∷ main ∷ [])
others = refl

pub not_recursive : Extracted m (record with_f { recursive = false }) ≡ module_of [] (variable External "v" i32 None ∷ []) (function External i32 "h" [] None ∷ f ∷ [])
not_recursive = refl

pub missing : no_such_symbol m (record with_f { functions = codes "nope" ∷ [] }) ≡ Some (codes "nope")
missing = refl

-- functions first
pub missing_first : no_such_symbol m (record { functions = codes "f" ∷ codes "v" ∷ []; variables = codes "nope" ∷ []; aliases = []; delete = false; recursive = false }) ≡ Some (codes "v")
missing_first = refl

pub none_missing : no_such_symbol m (record { functions = codes "f" ∷ []; variables = codes "v" ∷ []; aliases = []; delete = false; recursive = false }) ≡ None
none_missing = refl

-- an appending variable that is named and not kept
abbrev pub returns_a : Function
returns_a = function External ptr "f" [] (Some (block 0 [] (Return (typed ptr (at "a"))) ∷ []))

abbrev pub named_array : Module
named_array = module_of [] (variable Appending "a" (array 1 i32) (Some (Aggregate Square (constants ((i32, Integer 1) ∷ [])))) ∷ []) (returns_a ∷ [])

abbrev pub only_f : Selection
only_f = record { functions = codes "f" ∷ []; variables = []; aliases = []; delete = false; recursive = false }

pub named_and_not_kept : Extracted named_array only_f ≡ module_of [] (variable Appending "a" (array 0 i32) (Some (Aggregate Square (constants []))) ∷ []) (returns_a ∷ [])
named_and_not_kept = refl

-- a function whose address alone is taken is not chosen, and what may be null stays so
abbrev takes : Module
takes = module_of [] (variable ExternWeak "w" i32 None ∷ variable External "p" ptr (Some (Address (codes "h"))) ∷ [])
    (function External ptr "f" [] (Some (block 0 (gives 1 (Load 0 ptr (typed ptr (at "w")) None) ∷ []) (Return (typed ptr (at "h"))) ∷ [])) ∷ function External i32 "h" [] (just 1) ∷ [])

pub taken : Extracted takes (record only_f { recursive = true }) ≡ record takes {
  variables = variable ExternWeak "w" i32 None ∷ [];
  functions = function External ptr "f" [] (Some (block 0 (gives 1 (Load 0 ptr (typed ptr (at "w")) None) ∷ []) (Return (typed ptr (at "h"))) ∷ [])) ∷ function External i32 "h" [] None ∷ [];
}
taken = refl
