-- For `resolve_symbols` and `Bindings`: what is told of some parts.
use Rattle.std.specs.Prelude.{◌≡◌, List, map, ⊤, Option, Some}
use Rattle.module_arena.specs.Lists.{Lists}
use Rattle.module_arena.specs.Module.{Module}
use Rattle.linkage_rules.specs.declared.entry.EntryId.{EntryId}
use Rattle.linkage_rules.specs.declared.conflict.SymbolFault.{SymbolFault}
use Rattle.linkage_rules.specs.declared.conflict.SymbolFault.TheVariants as fault
use Rattle.linkage_rules.specs.Conflicts.{first_conflict}
use Rattle.linkage_rules.specs.Entries.{Symbol}
use Rattle.linkage_rules.specs.Grouped.{Rows, AreGroups, AreHomes}

-- what `Bindings` holds: the symbols in order, and the entries and homes of symbols
pub record Resolved : Type 0 where
  pub symbols : List Symbol
  pub groups : Rows
  pub homes : List (Option EntryId)

-- the entries of the parts stand under their symbols, and each symbol has its home
pub record AreBindings (parts : List Lists) (r : Resolved) : Type 0 where
  pub groups : AreGroups parts r.groups
  pub homes : AreHomes parts (map (λ row. row.0) r.groups) r.homes

-- the first conflict, or want of memory
abbrev pub IsFault : List Module → SymbolFault → Type 0
IsFault parts (fault.Conflict kind name i j) = first_conflict parts ≡ Some (record { kind = kind; name = name; one = i; other = j })
IsFault parts fault.Memory = ⊤
