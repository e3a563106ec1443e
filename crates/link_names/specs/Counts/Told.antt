-- For `too_many_entries` and `too_many`, and how the code of `count_symbols` reads: symbols of one kind, the counts of entries and structs, and the
-- sizes of appended arrays.
use Rattle.std.specs.Prelude.{ℕ, List, [], ◌∷◌, Option, Some, None, nat_lt, filter, filter_map, length, if◌then◌else◌}
use Rattle.linkage_rules.specs.Conflicts.{appends}
use Rattle.linkage_rules.specs.Entries.{Entry}
use Rattle.linkage_rules.specs.Grouped.{kind_of, same_kind}
use Rattle.linkage_rules.specs.Lists.{first}
use Rattle.linkage_rules.specs.Symbols.{variable_symbols}
use Rattle.linkage_rules.specs.Winner.{definitions, home}
use Rattle.linkage_rules.specs.declared.symbol.SymbolKind.TheVariants as kind
use Rattle.linkage_rules.specs.declared.symbol.Symbol.{Symbol}
use Rattle.linkage_rules.specs.declared.symbol.SymbolKind.{SymbolKind}
use Rattle.module_arena.specs.Module.{Module}
use Rattle.module_arena.specs.declared.arena.TheConstants.{COUNT_LIMIT}
use Rattle.module_arena.specs.declared.fault.CountKind.{CountKind}
use Rattle.module_arena.specs.declared.fault.CountKind.TheVariants.{Structs, Variables, Functions, Aliases, AppendedBytes}
use Rattle.link_rules.specs.Counts as linking
use Rattle.link_rules.specs.Counts.{appended_bytes}
use Rattle.link_rules.specs.declared.limits.TheConstants.{APPENDED_LIMIT}
use Rattle.link_names.specs.declared.counts.counting.SymbolCounts.{SymbolCounts}
use Rattle.link_names.specs.declared.counts.limits.Count.{Count}

-- how many of some symbols are of a kind
abbrev pub count_of : List Module → SymbolKind → List Symbol → ℕ
count_of parts wanted ss = length (filter (λ s. same_kind wanted (kind_of parts s)) ss)

-- a count of a kind
abbrev pub entry : CountKind → ℕ → linking.Count
entry kind n = record { kind = kind; number = n }

-- the counts of a module with so many structs and symbols, but for those of appended arrays
abbrev pub entry_counts : ℕ → SymbolCounts → List linking.Count
entry_counts structs c =
    entry Structs structs ∷ entry Variables c.variables ∷ entry Functions c.functions ∷ entry Aliases (linking.count_of_aliases c.variables c.functions c.aliases) ∷ []

-- a count that is told
abbrev pub told : Count → linking.Count
told c = record { kind = c.kind; number = c.number }

-- a count of structs or entries that is past the limit
abbrev pub past : CountKind → ℕ → Option Count
past kind number = if nat_lt COUNT_LIMIT number then Some (record { kind = kind; number = number }) else None

-- the size of an appended array, as a count
abbrev pub count_of_bytes : Option ℕ → Option Count
count_of_bytes None = None
count_of_bytes (Some n) = Some (record { kind = AppendedBytes; number = n })

-- the size of a symbol that is defined there, if it is appended
abbrev pub appended_at : List Module → Symbol → Option Entry → Option ℕ
appended_at parts s None = None
appended_at parts s (Some e) = if appends e then Some (appended_bytes parts e (definitions parts s)) else None

-- the size of a symbol, if it is appended
abbrev pub appended_of : List Module → Symbol → Option ℕ
appended_of parts s = appended_at parts s (home parts s)

-- a size that is past the limit
abbrev pub if_long : Option ℕ → Option ℕ
if_long None = None
if_long (Some n) = if nat_lt APPENDED_LIMIT n then Some n else None

-- the size of a symbol, if it is a variable that is appended and past the limit
abbrev pub too_long_of : List Module → Symbol → Option ℕ
too_long_of parts s = if same_kind kind.Variable (kind_of parts s) then if_long (appended_of parts s) else None

-- the first such size that is past the limit
abbrev pub first_appended : List Module → Option ℕ
first_appended parts = first (filter (nat_lt APPENDED_LIMIT) (filter_map (appended_of parts) (variable_symbols parts)))
