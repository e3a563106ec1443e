-- For `Names::spots`, `Names::address` and `Names::bounds`: where the variables of a module lie in a run of the module alone.
use Rattle.std.specs.Prelude.{◌≡◌, ℕ, ◌+◌, ◌≤◌, ◌^◌, Bool, not, ◌&&◌, true, false, is_some, List, [], ◌∷◌, map, Some, slice_get, unwrap_or, if◌then◌else◌}
use Rattle.std.specs.Int.{next_multiple_of}
use Rattle.std.specs.Option.{option_map_or}
use Rattle.ir_tables.specs.declared.linkage.Linkage.{Linkage}
use Rattle.ir_eval.specs.Cast.{pointer_at}
use Rattle.ir_eval.specs.declared.value.Scalar.{Scalar}
use Rattle.ir_eval.specs.declared.value.Scalar.TheVariants.{Ptr, Poison}
use Rattle.module_arena.specs.declared.entry.Variable.{Variable}
use Rattle.module_arena.specs.declared.entry.GlobalId.TheVariants as global
use Rattle.module_arena.specs.Lists.{Lists, name_at}
use Rattle.module_arena.specs.View.{module_of}
use Rattle.type_table.specs.Layout.{size, align}
use Rattle.type_table.specs.Types.{shape}
use Rattle.linkage_rules.specs.Linkages.{is_available_externally, is_extern_weak}
use Rattle.linkage_rules.specs.declared.symbol.Symbol.{Symbol}
use Rattle.linkage_rules.specs.Entries.{symbol_in}
use Rattle.linkage_rules.specs.Addresses.{address, rooms}
use Rattle.run_rules.specs.Look.{address_in}
use Rattle.run_rules.specs.Plan as plans
use Rattle.run_names.specs.declared.spot.Spot.{Spot}

-- a variable is defined
abbrev pub is_defined : Variable → Bool
is_defined v = is_some v.initialiser && not (is_available_externally v.linkage)

-- the variable with that number is
abbrev pub defines : Lists → ℕ → Bool
defines a id = option_map_or is_defined (slice_get a.variables id) false

-- the bytes of the type of a variable
abbrev pub size_of : Lists → Variable → ℕ
size_of a v = option_map_or size (shape a.table v.ty) 0

-- the alignment that a variable states, or else its type's
abbrev pub align_of : Lists → Variable → ℕ
align_of a v = unwrap_or v.alignment (option_map_or align (shape a.table v.ty) 1)

-- where a variable lies that is put behind that address
abbrev pub spot_of : Lists → ℕ → ℕ → Variable → Spot
spot_of a id next v = record { variable = id; start = next_multiple_of next (align_of a v); size = size_of a v; align = align_of a v; constant = v.constant }

-- the same of a variable by its number
abbrev pub spot_at : Lists → ℕ → ℕ → Spot
spot_at a id next = option_map_or (spot_of a id next) (slice_get a.variables id) (record { variable = id; start = next; size = 0; align = 1; constant = false })

-- the address of a variable that no one defines
abbrev pub absent_leaf : Linkage → Scalar
absent_leaf linkage = if is_extern_weak linkage then Ptr (pointer_at 0) else Poison

-- what opening needs of the variable of a spot
abbrev pub needs : Spot → plans.Variable
needs s = record { size = s.size; align = s.align; constant = s.constant }

-- the symbol of a variable
abbrev pub variable_symbol : Lists → ℕ → Symbol
variable_symbol a id = symbol_in (module_of a ∷ []) 0 (name_at a (global.Variable id))

-- where it starts and ends
abbrev pub bounds_of : Spot → ℕ × ℕ
bounds_of s = (s.start, s.start + s.size)

-- as far as there are addresses of variables
abbrev pub variables_end : ℕ
variables_end = 2 ^ 60

-- half as far: what is put behind an address up to there ends within them, whatever its size and its alignment
abbrev pub variables_half : ℕ
variables_half = 2 ^ 59

-- no spot ends further on than that
abbrev pub AreWithin : List Spot → Type 0
AreWithin spots = (k : ℕ) (s : Spot) → slice_get spots k ≡ Some s → s.start + s.size ≤ variables_end

-- the spots of all variables that are defined: what opening needs of them, which symbols they are, and where they lie
pub record AreSpots (a : Lists) (spots : List Spot) : Type 0 where
  pub variables : map needs spots ≡ (plans.plan (module_of a ∷ [])).variables
  pub symbols : map (λ (s : Spot). variable_symbol a s.variable) spots ≡ map (λ row. row.0) (rooms (module_of a ∷ []))
  pub starts : map {B = ℕ} (λ (s : Spot). s.start) spots ≡ map {B = ℕ} (λ row. unwrap_or (address (module_of a ∷ []) row.0) 0) (rooms (module_of a ∷ []))
  pub defined : (k : ℕ) (s : Spot) → slice_get spots k ≡ Some s → defines a s.variable ≡ true
  pub within : AreWithin spots

-- the address of each variable, in order, is what its name is
abbrev pub AreAddresses : Lists → List Scalar → Type 0
AreAddresses a addresses = addresses ≡ map (λ (v : Variable). address_in (module_of a ∷ []) 0 v.name) a.variables
