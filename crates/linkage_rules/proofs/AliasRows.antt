-- The rules of linking, on examples with aliases.
use Rattle.std.specs.Prelude.{◌≡◌, ◌^◌, ◌+◌, [], ◌∷◌, codes, Some, None, refl}
use Rattle.std.specs.Option.{option_map}
use Rattle.type_table.specs.Tree.{void}
use Rattle.ir_tables.specs.declared.linkage.Linkage.TheVariants.{External, Internal, Private}
use Rattle.module_arena.specs.Module.{Integer, PlainType, Module}
use Rattle.module_arena.specs.Write.{i32, function, just, variable, alias, module_of}
use Rattle.linkage_rules.proofs.AliasParts.{two_names, other_name, weak_g, alias_g, hides_x, knows_y}
use Rattle.linkage_rules.specs.Bind.{Definition, bind}
use Rattle.linkage_rules.specs.Conflicts.{TwoStrong, FunctionAndVariable, first_conflict}
use Rattle.linkage_rules.specs.Entries.{Shared, Local, Entry}
use Rattle.linkage_rules.proofs.RowParts.{only, only_function}
use Rattle.linkage_rules.specs.Globals.{OfVariable, OfFunction}
use Rattle.linkage_rules.specs.Addresses.{place, address}
use Rattle.linkage_rules.specs.Symbols.{symbols}
use Rattle.linkage_rules.specs.Winner.{winner}

-- SYMBOLS: aliases stand behind variables and functions

pub alias_last : symbols (two_names ∷ []) ≡ Shared (codes "x") ∷ Shared (codes "main") ∷ Shared (codes "y") ∷ []
alias_last = refl

-- a name that an alias wins is no function, wherever it was named first
pub alias_wins : symbols (weak_g ∷ alias_g ∷ []) ≡ Shared (codes "main") ∷ Shared (codes "f") ∷ Shared (codes "g") ∷ []
alias_wins = refl

pub local_aliases : symbols (knows_y ∷ hides_x ∷ []) ≡ Local 0 (codes "z") ∷ Local 0 (codes "x") ∷ Shared (codes "q") ∷ Local 1 (codes "x") ∷ Shared (codes "p") ∷ Local 0 (codes "w") ∷ Shared (codes "y") ∷ Local 1 (codes "z") ∷ []
local_aliases = refl

-- CONFLICTS

abbrev y_is_x : Module
y_is_x = record (module_of [] (variable External "y" i32 (Some (Integer 2)) ∷ []) []) { aliases = alias External "x" (PlainType i32) "y" ∷ [] }

pub two_strong : first_conflict (only External "x" i32 (Some (Integer 1)) ∷ y_is_x ∷ []) ≡ Some (record { kind = TwoStrong; name = codes "x"; one = 0; other = 1 })
two_strong = refl

-- an alias is of its target's kind
pub function_and_variable : first_conflict (module_of [] [] (function External void "x" [] None ∷ []) ∷ y_is_x ∷ []) ≡ Some (record { kind = FunctionAndVariable; name = codes "x"; one = 0; other = 1 })
function_and_variable = refl

pub same_kind : first_conflict (only External "x" i32 None ∷ y_is_x ∷ []) ≡ None
same_kind = refl

-- a symbol whose winner is an alias comes last: its conflict is told behind that of `f`
pub last_told : first_conflict (alias_g ∷ only_function External "g" 3 ∷ only_function External "f" 4 ∷ []) ≡ Some (record { kind = TwoStrong; name = codes "f"; one = 0; other = 2 })
last_told = refl

-- and one whose winner is not stands where it was first named
pub first_told : first_conflict (only_function External "g" 3 ∷ alias_g ∷ only_function External "f" 4 ∷ []) ≡ Some (record { kind = TwoStrong; name = codes "g"; one = 0; other = 1 })
first_told = refl

pub two_aliases : first_conflict (alias_g ∷ other_name External "g" Internal "f" 5 ∷ []) ≡ Some (record { kind = TwoStrong; name = codes "g"; one = 0; other = 1 })
two_aliases = refl

-- WINNERS

pub strong_alias : option_map (λ (e : Entry). e.part) (winner (weak_g ∷ alias_g ∷ []) (codes "g")) ≡ Some 1
strong_alias = refl

-- BINDINGS

pub target : bind (two_names ∷ []) 0 (codes "y") ≡ Definition (record { part = 0; global = OfVariable (variable External "x" i32 (Some (Integer 5))) })
target = refl

-- in each part, what the alias's own part defines
pub hidden_target : bind (knows_y ∷ hides_x ∷ []) 0 (codes "y") ≡ Definition (record { part = 1; global = OfVariable (variable Internal "x" i32 (Some (Integer 3))) })
hidden_target = refl

-- the part's own local entry comes first
pub own_alias : bind (knows_y ∷ hides_x ∷ []) 1 (codes "z") ≡ Definition (record { part = 1; global = OfVariable (variable Internal "x" i32 (Some (Integer 3))) })
own_alias = refl

pub own_variable : bind (knows_y ∷ hides_x ∷ []) 0 (codes "z") ≡ Definition (record { part = 0; global = OfVariable (record (variable Internal "z" i32 (Some (Integer 4))) { linkage = Private }) })
own_variable = refl

pub target_of_winner : bind (weak_g ∷ alias_g ∷ []) 0 (codes "g") ≡ Definition (record { part = 1; global = OfFunction (function External i32 "f" [] (just 2)) })
target_of_winner = refl

-- PLACES: an alias has none of its own

pub two_places : place (two_names ∷ []) ≡ (Shared (codes "x"), 65536) ∷ (Shared (codes "main"), 2 ^ 62) ∷ []
two_places = refl

pub same_variable : address (two_names ∷ []) (Shared (codes "y")) ≡ Some 65536
same_variable = refl

pub same_function : address (weak_g ∷ alias_g ∷ []) (Shared (codes "g")) ≡ Some (2 ^ 62 + 16)
same_function = refl
