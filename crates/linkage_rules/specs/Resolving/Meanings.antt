-- For `bind_names`, `Meanings::bind` and `Bindings::bind`: what is told of the names of some parts.
use Rattle.std.specs.Prelude.{◌≡◌, ℕ, Bool, length, List, Option, Some, is_some, option_and_then, slice_get, bytes_eq, ◌==◌, IfSome, if◌then◌else◌}
use Rattle.std.specs.List.{list_any}
use Rattle.std.specs.Map.{lookup}
use Rattle.std.specs.Option.{option_map}
use Rattle.module_arena.specs.Module.{Bytes, Module}
use Rattle.linkage_rules.specs.declared.resolving.bound.Bound as the_bound
use Rattle.linkage_rules.specs.declared.resolving.bound.Bound.TheVariants as told
use Rattle.linkage_rules.specs.Bind.{Bound, Definition, Appended, Host, Null, Unresolved, all_extern_weak, bind}
use Rattle.linkage_rules.specs.declared.symbol.Symbol.{Symbol}
use Rattle.linkage_rules.specs.declared.symbol.Symbol.TheVariants.{Shared, Local}
use Rattle.linkage_rules.specs.Entries.{part_at, same_symbol}
use Rattle.linkage_rules.specs.Globals.{globals, name_of}
use Rattle.linkage_rules.specs.Grouped.{Rows, group_in}
use Rattle.linkage_rules.specs.Ids.{entry_in}

-- the names of a part, with what is told of each
abbrev pub NamesTold : Type 0
NamesTold = List (Bytes × the_bound.Bound)

-- what is told of a name of a part
abbrev pub told_of : List NamesTold → ℕ → Bytes → Option the_bound.Bound
told_of all part name = option_and_then (lookup (bytes_eq name)) (slice_get all part)

-- what is meant by what is told, where the entry of a definition is there
abbrev pub bound_view : List Module → the_bound.Bound → Option Bound
bound_view parts (told.Definition part id) = option_map Definition (entry_in part (slice_get parts part) id)
bound_view parts (told.Appended symbol) = Some (Appended symbol)
bound_view parts (told.Host name) = Some (Host name)
bound_view parts told.Null = Some Null
bound_view parts told.Unresolved = Some Unresolved

-- what is told is what a name means in a part
abbrev pub IsMeant : List Module → ℕ → Bytes → the_bound.Bound → Type 0
IsMeant parts part name bound = bound_view parts bound ≡ Some (bind parts part name)

-- whether a part has an entry of that name
abbrev pub has_name : List Module → ℕ → Bytes → Bool
has_name parts part name = list_any (λ g. bytes_eq name (name_of g)) (globals (part_at parts part))

-- the names of a part, with exactly what they mean
pub record AreNames (parts : List Module) (part : ℕ) (names : NamesTold) : Type 0 where
  pub bound : (name : Bytes) → IfSome (lookup (bytes_eq name) names) (λ b. bound_view parts b ≡ Some (bind parts part name))
  pub known : (name : Bytes) → is_some (lookup (bytes_eq name) names) ≡ has_name parts part name

-- for each name that a part has exactly what it means, and for any other none
pub record AreMeanings (parts : List Module) (all : List NamesTold) : Type 0 where
  pub bound : (part : ℕ) (name : Bytes) → IfSome (told_of all part name) (λ b. bound_view parts b ≡ Some (bind parts part name))
  pub known : (part : ℕ) (name : Bytes) → is_some (told_of all part name) ≡ has_name parts part name

-- what a name is of in a part, by what is filed: that part's own symbol, if it has one
abbrev pub symbol_under : Rows → ℕ → Bytes → Symbol
symbol_under rows part name = if length (group_in rows (Local part name)) == 0 then Shared name else Local part name

-- what is told of some symbols: whether each part that has the symbol can do without it
abbrev pub AreAbsent : List Module → List (Symbol × Bool) → Type 0
AreAbsent parts rows = (s : Symbol) → IfSome (lookup (same_symbol s) rows) (λ is_absent. is_absent ≡ all_extern_weak parts s)
