-- For `joined_length`, `room_of` and `place_symbols`: what is told of where variables and functions stand.
use Rattle.std.specs.Prelude.{◌≡◌, ℕ, List, map, ◌-◌, ◌^◌, max, min, Option, Some, None, filter_map, if◌then◌else◌}
use Rattle.std.specs.Option.{option_map}
use Rattle.module_arena.specs.Module.{Module}
use Rattle.linkage_rules.specs.declared.address.TheConstants.{FIRST_ADDRESS}
use Rattle.linkage_rules.specs.declared.symbol.Symbol.{Symbol}
use Rattle.linkage_rules.specs.declared.symbol.SymbolKind.TheVariants as kind
use Rattle.linkage_rules.specs.Grouped.{kind_of, same_kind}
use Rattle.linkage_rules.specs.Addresses.{Room, room, rooms, placed_from}
use Rattle.linkage_rules.specs.Symbols.{function_symbols}
use Rattle.linkage_rules.specs.declared.resolving.standing.PlacedVariable.{PlacedVariable}
use Rattle.linkage_rules.specs.declared.resolving.room.Room as the_room

-- a number, or the greatest of 64 bits where it is more
abbrev pub clamped : ℕ → ℕ
clamped n = min n (2 ^ 64 - 1)

-- the greater of a number and what was greatest before it
abbrev pub greater : Option ℕ → ℕ → Option ℕ
greater None n = Some n
greater (Some m) n = Some (max m n)

-- what is told of the room of a variable
abbrev pub room_told : Room → the_room.Room
room_told r = record { size = clamped r.size; alignment = r.alignment }

-- the room of a symbol that is a variable
abbrev pub variable_room : List Module → Symbol → Option Room
variable_room parts s = if same_kind kind.Variable (kind_of parts s) then room parts s else None

-- a symbol with its room, where it has one
abbrev pub row : Symbol → Option Room → Option (Symbol × Room)
row s o = option_map {U = Symbol × Room} (λ r. (s, r)) o

-- those of some symbols that are variables, with their rooms
abbrev pub rows_among : List Module → List Symbol → List (Symbol × Room)
rows_among parts ss = filter_map (λ s. row s (variable_room parts s)) ss

-- what `Places` holds: the variables that lie in memory, and the functions, of which the n-th has the n-th address
pub record PlacesTold : Type 0 where
  pub variables : List PlacedVariable
  pub functions : List Symbol

-- exactly those symbols with their rooms, where they lie from the first address on
pub record ArePlaced (rows : List (Symbol × Room)) (variables : List PlacedVariable) : Type 0 where
  pub rooms : map {B = Symbol × the_room.Room} (λ (v : PlacedVariable). (v.symbol, v.room)) variables
      ≡ map {B = Symbol × the_room.Room} (λ (r : Symbol × Room). (r.0, room_told r.1)) rows
  pub addresses : map {B = Symbol × ℕ} (λ (v : PlacedVariable). (v.symbol, v.address)) variables
      ≡ map {B = Symbol × ℕ} (λ (r : Symbol × ℕ). (r.0, clamped r.1)) (placed_from FIRST_ADDRESS rows)

-- exactly where the variables and functions of the parts stand, in the order of symbols
pub record ArePlaces (parts : List Module) (p : PlacesTold) : Type 0 where
  pub variables : ArePlaced (rooms parts) p.variables
  pub functions : p.functions ≡ function_symbols parts
