-- For `head_of`, the calls of `EntryId`, `Bindings::kind`, `resolve_symbols` and all other calls over parts: the entries of parts by their ids.
use Rattle.std.specs.Prelude.{◌≡◌, ℕ, List, [], map, slice_get, Option, Some, None, unwrap_or, false}
use Rattle.std.specs.Option.{option_map}
use Rattle.ir_tables.specs.declared.linkage.Linkage.TheVariants.{External}
use Rattle.type_table.specs.Tree.{void}
use Rattle.module_arena.specs.declared.entry.GlobalId.{GlobalId}
use Rattle.module_arena.specs.declared.entry.GlobalId.TheVariants as global
use Rattle.module_arena.specs.Known.{counts, HasGlobal}
use Rattle.module_arena.specs.Lists.{Lists}
use Rattle.module_arena.specs.Module.{Module}
use Rattle.module_arena.specs.View.{module_of}
use Rattle.linkage_rules.specs.declared.entry.EntryId.{EntryId}
use Rattle.linkage_rules.specs.declared.symbol.SymbolKind.{SymbolKind}
use Rattle.linkage_rules.specs.declared.symbol.SymbolKind.TheVariants as kind
use Rattle.linkage_rules.specs.Globals.{Global, OfVariable, OfFunction, OfAlias}
use Rattle.linkage_rules.specs.Entries.{Entry}

-- the modules that arenas stand for
abbrev pub modules : List Lists → List Module
modules parts = map module_of parts

-- what a module has under an id
abbrev pub global_at : Module → GlobalId → Option Global
global_at m (global.Variable n) = option_map OfVariable (slice_get m.variables n)
global_at m (global.Function n) = option_map OfFunction (slice_get m.functions n)
global_at m (global.Alias n) = option_map OfAlias (slice_get m.aliases n)

-- the entry of a part under an id
abbrev pub entry_in : ℕ → Option Module → GlobalId → Option Entry
entry_in part None id = None
entry_in part (Some m) id = option_map {U = Entry} (λ g. record { part = part; global = g }) (global_at m id)

-- the id of that kind with that number
abbrev pub global_of : SymbolKind → ℕ → GlobalId
global_of kind.Variable n = global.Variable n
global_of kind.Function n = global.Function n
global_of kind.Alias n = global.Alias n

-- what an id is in its part
abbrev pub global_id : EntryId → GlobalId
global_id id = global_of id.kind id.number

-- the entry with an id, where there is one
abbrev pub entry_at : List Module → EntryId → Option Entry
entry_at parts id = entry_in id.part (slice_get parts id.part) (global_id id)

-- the ids of an entry of these arenas
abbrev pub IsEntryId : List Lists → EntryId → Type 0
IsEntryId parts id = (a : Lists) × (slice_get parts id.part ≡ Some a) × HasGlobal (counts a) (global_id id)

-- an entry that no part has
abbrev pub no_entry : Entry
no_entry = record { part = 0; global = OfVariable (record { name = []; linkage = External; constant = false; ty = void; alignment = None; initialiser = None }) }

-- the entry with an id that is there
abbrev pub seen : List Module → EntryId → Entry
seen parts id = unwrap_or (entry_at parts id) no_entry
