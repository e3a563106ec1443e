-- For `resolve_symbols`, the calls of `Bindings`, `head_of`, `all_ids` and `push_part`: entries by their ids, filed under
-- their symbols.
use Rattle.std.specs.Prelude.{◌≡◌, ℕ, ◌+◌, Bool, true, false, not, ◌&&◌, length, List, [], ◌∷◌, ◌++◌, map, filter, flat_map, All, Option, Some, None, unwrap_or, IfSome, find, position, slice_get, option_and_then, if◌then◌else◌}
use Rattle.std.specs.Option.{option_map, option_map_or}
use Rattle.std.specs.Map.{lookup}
use Rattle.indexmap.specs.IndexMap.{insert_entry}
use Rattle.module_arena.specs.Known.{upto}
use Rattle.module_arena.specs.Lists.{Lists}
use Rattle.module_arena.specs.Module.{Module}
use Rattle.linkage_rules.specs.declared.clash.EntryClash.{EntryClash}
use Rattle.linkage_rules.specs.declared.entry.EntryId.{EntryId}
use Rattle.linkage_rules.specs.declared.entry.EntryHead.{EntryHead}
use Rattle.linkage_rules.specs.declared.symbol.SymbolKind.{SymbolKind}
use Rattle.linkage_rules.specs.declared.symbol.SymbolKind.TheVariants as kind
use Rattle.linkage_rules.specs.Conflicts.{FoundConflict, conflicts_of, ConflictKind, TwoStrong, FunctionAndVariable, AppendingAndPlain, ElementShape, Constness, appends, is_strong, elements_alike}
use Rattle.linkage_rules.specs.Entries.{Entry, Symbol, same_symbol, symbol_name, symbol_of, entries, entries_of}
use Rattle.linkage_rules.specs.Globals.{Global, linkage_of, is_written, is_variable, is_alias, is_constant}
use Rattle.linkage_rules.specs.Ids.{IsEntryId, modules, seen}
use Rattle.linkage_rules.specs.Lists.{firsts, first}
use Rattle.linkage_rules.specs.SameShape.{agree}
use Rattle.linkage_rules.specs.Symbols.{is_alias_symbol}
use Rattle.linkage_rules.specs.Winner.{best, better, home, is_definition}

-- what is told of an entry without its names and types
abbrev pub head_of : Global → EntryHead
head_of g = record { linkage = linkage_of g; written = is_written g; variable = is_variable g; alias = is_alias g; constant = is_constant g }

-- ---- all entries

-- so many ids of a part
abbrev pub numbered : ℕ → SymbolKind → ℕ → List EntryId
numbered part of count = map {B = EntryId} (λ n. record { part = part; kind = of; number = n }) (upto 0 count)

-- the ids of a part: variables, functions, aliases
abbrev pub ids_of : ℕ → Lists → List EntryId
ids_of part a =
    (numbered part kind.Variable (length a.variables) ++ numbered part kind.Function (length a.functions)) ++ numbered part kind.Alias (length a.aliases)

-- those of parts of which the first has this number
abbrev pub ids_from : ℕ → List Lists → List EntryId
ids_from i [] = []
ids_from i (a ∷ as_) = ids_of i a ++ ids_from (i + 1) as_

-- the ids of all entries
pub record AreIds (parts : List Lists) (ids : List EntryId) : Type 0 where
  pub entries : map (seen (modules parts)) ids ≡ entries (modules parts)
  pub known : All (IsEntryId parts) ids

-- ---- under symbols

-- symbols with the ids of their entries
abbrev pub Rows : Type 0
Rows = List (Symbol × List EntryId)

-- the symbol of the entry with an id
abbrev pub key_in : List Module → EntryId → Symbol
key_in parts id = symbol_of (seen parts id)

-- the ids under a symbol
abbrev pub group_in : Rows → Symbol → List EntryId
group_in rows s = unwrap_or (lookup (same_symbol s) rows) []

-- one id more under a symbol
abbrev pub with_filed : Rows → Symbol → EntryId → Rows
with_filed rows s id = insert_entry same_symbol rows s (group_in rows s ++ id ∷ [])

-- each id stands under its symbol, in order
pub record IsFiled (key : EntryId → Symbol) (ids : List EntryId) (rows : Rows) : Type 0 where
  pub keys : map (λ r. r.0) rows ≡ firsts same_symbol (map key ids)
  pub groups : (s : Symbol) → group_in rows s ≡ filter (λ id. same_symbol s (key id)) ids

-- all entries of the parts stand under their symbols
pub record AreGroups (parts : List Lists) (rows : Rows) : Type 0 where
  pub keys : map (λ r. r.0) rows ≡ firsts same_symbol (map symbol_of (entries (modules parts)))
  pub groups : (s : Symbol) → map (seen (modules parts)) (group_in rows s) ≡ entries_of (modules parts) s
  pub known : (s : Symbol) → All (IsEntryId parts) (group_in rows s)

-- the symbols of the aliases, in the order of first alias
abbrev pub AreAliasGroups : List Lists → Rows → Type 0
AreAliasGroups parts rows = map (λ r. r.0) rows ≡ firsts same_symbol (map symbol_of (filter (λ e. is_alias e.global) (entries (modules parts))))

-- ---- homes

-- the best of the definitions among some entries
abbrev pub home_among : List Module → List EntryId → Option Entry
home_among parts ids = best parts (filter is_definition (map (seen parts) ids))

-- the better of an entry and what is best behind it
abbrev pub better_of : List Module → Entry → Option Entry → Option Entry
better_of parts e behind = if is_definition e then better parts e behind else behind

-- a definition, where there is one
abbrev pub IsHome : List Lists → Option EntryId → Type 0
IsHome parts home = IfSome home (λ id. IsEntryId parts id × (is_definition (seen (modules parts) id) ≡ true))

-- the homes of these symbols
pub record AreHomes (parts : List Lists) (symbols : List Symbol) (homes : List (Option EntryId)) : Type 0 where
  pub each : map (option_map (seen (modules parts))) homes ≡ map (home (modules parts)) symbols
  pub known : All (IsHome parts) homes

-- the home that stands where the symbol does
abbrev pub home_in : Rows → List (Option EntryId) → Symbol → Option EntryId
home_in rows homes s = option_and_then (λ k. unwrap_or (slice_get homes k) None) (position (same_symbol s) (map (λ r. r.0) rows))

-- ---- kinds

-- whether the first entry of a symbol is a variable
abbrev pub begins_as_variable : List Module → Symbol → Bool
begins_as_variable parts s = option_map_or (λ e. is_variable e.global) (first (entries_of parts s)) false

-- whether a symbol is a variable, a function or an alias
abbrev pub kind_of : List Module → Symbol → SymbolKind
kind_of parts s = if is_alias_symbol parts s then kind.Alias else (if begins_as_variable parts s then kind.Variable else kind.Function)

-- one kind
abbrev pub same_kind : SymbolKind → SymbolKind → Bool
same_kind kind.Variable kind.Variable = true
same_kind kind.Function kind.Function = true
same_kind kind.Alias kind.Alias = true
same_kind _ _ = false

-- ---- conflicts

-- whether an entry can be in a conflict of this kind
abbrev pub takes_part : ConflictKind → Entry → Bool
takes_part TwoStrong e = is_strong e
takes_part FunctionAndVariable e = true
takes_part AppendingAndPlain e = true
takes_part ElementShape e = appends e
takes_part Constness e = appends e

-- whether two that can be are
abbrev pub differ : List Module → ConflictKind → Entry → Entry → Bool
differ parts TwoStrong a b = true
differ parts FunctionAndVariable a b = not (agree (is_variable a.global) (is_variable b.global))
differ parts AppendingAndPlain a b = not (agree (appends a) (appends b))
differ parts ElementShape a b = not (elements_alike parts a b)
differ parts Constness a b = not (agree (is_constant a.global) (is_constant b.global))

-- the first that is in conflict with an entry
abbrev pub clash_with : List Module → ConflictKind → Entry → List Entry → Option Entry
clash_with parts kind a es = find (λ b. takes_part kind b && differ parts kind a b) es

-- an entry with that one
abbrev pub pair_behind : List Module → ConflictKind → Entry → List Entry → Option (Entry × Entry)
pair_behind parts kind a es = option_map {U = Entry × Entry} (λ b. (a, b)) (clash_with parts kind a es)

-- the first that can be in a conflict, with the first that is in conflict with it
abbrev pub first_clash : List Module → ConflictKind → List Entry → Option (Entry × Entry)
first_clash parts kind [] = None
first_clash parts kind (e ∷ es) = if takes_part kind e then pair_behind parts kind e es else first_clash parts kind es

-- a conflict that was found, or else a later one
abbrev pub or_later : ConflictKind → Option (Entry × Entry) → Option (ConflictKind × (Entry × Entry)) → Option (ConflictKind × (Entry × Entry))
or_later kind None later = later
or_later kind (Some pair) later = Some (kind, pair)

-- the first conflict of these kinds among entries of one name
abbrev pub conflict_among : List Module → List Entry → List ConflictKind → Option (ConflictKind × (Entry × Entry))
conflict_among parts es [] = None
conflict_among parts es (kind ∷ kinds) = or_later kind (first_clash parts kind es) (conflict_among parts es kinds)

-- the kinds behind the first
abbrev pub later_kinds : List ConflictKind
later_kinds = FunctionAndVariable ∷ AppendingAndPlain ∷ ElementShape ∷ Constness ∷ []

-- what is told of two entries in conflict
abbrev pub told_of : ConflictKind → Entry × Entry → EntryClash
told_of kind pair = record { kind = kind; one = pair.0.part; other = pair.1.part }

-- the same, with the kind
abbrev pub told : ConflictKind × (Entry × Entry) → EntryClash
told found = told_of found.0 found.1

-- the conflict of a symbol, of which that is told
abbrev pub told_in : Symbol → EntryClash → FoundConflict
told_in s clash = record { kind = clash.kind; name = symbol_name s; one = clash.one; other = clash.other }

-- the first conflict of these symbols
abbrev pub first_of : List Module → List Symbol → Option FoundConflict
first_of parts symbols = first (flat_map (conflicts_of parts) symbols)
