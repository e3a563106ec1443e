-- For `linking_carries_symbols`: what the symbols and definitions of some parts are in the module that is made of them.
use Rattle.std.specs.Prelude.{◌≡◌, true, List, [], ◌∷◌}
use Rattle.module_arena.specs.Module.{Bytes, Module}
use Rattle.linkage_rules.specs.Entries.{Entry, same_symbol}
use Rattle.linkage_rules.specs.declared.symbol.Symbol.{Symbol}
use Rattle.linkage_rules.specs.declared.symbol.Symbol.TheVariants.{Shared, Local}
use Rattle.linkage_rules.specs.Lists.{has}
use Rattle.linkage_rules.specs.Symbols.{symbols}
use Rattle.linkage_rules.specs.Winner.{definitions}
use Rattle.link_rules.specs.Linked.{linked_definition, link_result}
use Rattle.link_rules.specs.Rename.{new_name_of}

-- the parts of a program that is linked: one
abbrev pub merged : List Module → List Module
merged parts = link_result parts ∷ []

-- one of the parts' symbols
abbrev pub IsSymbol : List Module → Symbol → Type 0
IsSymbol parts s = has same_symbol (symbols parts) s ≡ true

-- what a symbol is in the result
abbrev pub carry : List Module → Symbol → Symbol
carry parts (Shared name) = Shared name
carry parts (Local i name) = Local 0 (new_name_of parts (Local i name))

-- what a definition of a symbol is in the result, under that name
abbrev pub moved_under : List Module → Symbol → Bytes → Entry → Entry
moved_under parts s name e = record { part = 0; global = linked_definition parts name e (definitions parts s) e.global }

-- what the definition of a symbol is in the result
abbrev pub moved : List Module → Symbol → Entry → Entry
moved parts s e = moved_under parts s (new_name_of parts s) e
