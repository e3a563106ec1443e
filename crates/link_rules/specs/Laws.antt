-- For `fresh_names_are_free`, `names_stay_apart`, `linking_carries_symbols` and `one_module_stays`: what they promise.
use Rattle.std.specs.Prelude.{◌≡◌, true, false, List, [], ◌∷◌, map, None, bytes_eq}
use Rattle.std.specs.List.{AllByRecursion}
use Rattle.ir_tables.specs.Table.{is_distinct}
use Rattle.module_arena.specs.Module.{Bytes, Module}
use Rattle.module_arena.specs.Valid.{IsValid}
use Rattle.module_arena.specs.WellFormed.{IsWellFormed}
use Rattle.linkage_rules.specs.Conflicts.{first_conflict}
use Rattle.linkage_rules.specs.Globals.{globals}
use Rattle.linkage_rules.specs.Lists.{has}
use Rattle.link_rules.specs.Alone.{Stays}
use Rattle.link_rules.specs.Linked.{link_result}
use Rattle.link_rules.specs.Merges.{Merges}
use Rattle.link_rules.specs.Rename.{fresh, renaming}
use Rattle.link_rules.specs.Structs.{struct_map}

-- a fresh name is not taken
abbrev pub FreshIsFree : Type 0
FreshIsFree = (taken : List Bytes) (base : Bytes) → has bytes_eq taken (fresh taken base) ≡ false

-- no two symbols have one name in the result
abbrev pub NamesStayApart : Type 0
NamesStayApart = (parts : List Module) → is_distinct bytes_eq (map (λ row. row.1) (renaming parts)) ≡ true

-- and no two structs
abbrev pub StructNamesStayApart : Type 0
StructNamesStayApart = (parts : List Module) → is_distinct bytes_eq (map (λ row. row.1) (struct_map parts)) ≡ true

-- parts that are well formed and valid, and have no conflict, have their symbols carried over
abbrev pub CarriesSymbols : Type 0
CarriesSymbols = (parts : List Module) → AllByRecursion IsWellFormed parts → AllByRecursion IsValid parts → first_conflict parts ≡ None → Merges parts

-- a well-formed, valid module without an available_externally definition and an appending `zeroinitializer` is what is made of it alone
abbrev pub OneModuleStays : Type 0
OneModuleStays = (m : Module) → IsWellFormed m → IsValid m → AllByRecursion Stays (globals m) → link_result (m ∷ []) ≡ m
