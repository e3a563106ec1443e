-- Says how the code of `define_symbols` reads: what is kept of the symbols while they are defined.
use Rattle.std.specs.Prelude.{◌≡◌, ℕ, List, [], slice_get, Option, Some, None}
use Rattle.linkage_rules.specs.Grouped.{group_in, home_in}
use Rattle.linkage_rules.specs.Resolved.{Resolved}
use Rattle.linkage_rules.specs.declared.entry.EntryId.{EntryId}
use Rattle.linkage_rules.specs.declared.symbol.Symbol.{Symbol}
use Rattle.linkage_rules.specs.declared.symbol.SymbolKind.{SymbolKind}
use Rattle.linkage_rules.specs.declared.symbol.SymbolKind.TheVariants.{Variable, Function, Alias}
use Rattle.module_arena.specs.Lists.{Lists}
use Rattle.module_linker.specs.Stages.Parts.{IsResolved}
use Rattle.module_linker.specs.declared.filling.origins.SymbolOrigin.{SymbolOrigin}

-- the entries of a variable; of what is of another kind none
abbrev pub entries_of_kind : SymbolKind → List EntryId → List EntryId
entries_of_kind Variable es = es
entries_of_kind Function es = []
entries_of_kind Alias es = []

-- those of a symbol with that home
abbrev pub entries_kept : Option EntryId → List EntryId → List EntryId
entries_kept None es = []
entries_kept (Some home) es = entries_of_kind home.kind es

-- what is kept of a symbol: its home, and the entries of a variable
abbrev pub origin_in : Resolved → Symbol → SymbolOrigin
origin_in r s = record { home = home_in r.groups r.homes s; entries = entries_kept (home_in r.groups r.homes s) (group_in r.groups s) }

-- This is kept of the symbol with that number.
pub record IsOrigin (parts : List Lists) (number : ℕ) (x : SymbolOrigin) : Type 0 where
  pub resolved_as : Resolved
  pub symbol : Symbol
  pub resolved : IsResolved parts resolved_as
  pub at : slice_get resolved_as.symbols number ≡ Some symbol
  pub is : x ≡ origin_in resolved_as symbol

-- These are kept of all symbols.
abbrev pub AreOrigins : List Lists → List SymbolOrigin → Type 0
AreOrigins parts xs = (k : ℕ) (x : SymbolOrigin) → slice_get xs k ≡ Some x → IsOrigin parts k x
