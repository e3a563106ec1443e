-- For `resolve` and `judge`: what a text asks for, token by token, and the first that does not hold.
use Rattle.std.specs.Prelude.{ℕ, Bool, true, false, not, ◌&&◌, ◌||◌, ◌≡◌, ◌^◌, ◌-◌, nat_lt, nat_le, bytes_eq, List, [], ◌∷◌, Option, Some, None, Result, Ok, Err, if◌then◌else◌}
use Rattle.ir_base.specs.declared.place.Place.{Place}
use Rattle.ir_terminals.specs.declared.values.Integer.{Integer}
use Rattle.ir_terminals.specs.declared.values.Local.{Local}
use Rattle.ir_terminals.specs.declared.values.Local.TheVariants as locals
use Rattle.ir_terminals.specs.declared.values.PlacedName.{PlacedName}
use Rattle.type_table.specs.declared.measure.Measure.{Measure}
use Rattle.type_table.specs.declared.measure.TheConstants.{NESTING_LIMIT, PARTS_LIMIT, SIZE_LIMIT}
use Rattle.type_table.specs.declared.layout.Layout.{Layout}
use Rattle.module_arena.specs.declared.arena.TheConstants.{INDEX_LIMIT}
use Rattle.name_rules.specs.declared.fault.ResolveFault.{ResolveFault}
use Rattle.name_rules.specs.declared.fault.ResolveFault.TheVariants as faults
use Rattle.name_rules.specs.Spelled.{spelled_local}
use Rattle.name_rules.specs.Locals.{local_in, Locals, is_there}

-- what is asked for, and how it is refused where it does not hold
pub record Demand : Type 0 where
  pub holds : Bool
  pub refusal : ResolveFault

-- the refusal of the first demand that does not hold
abbrev pub first_refusal : List Demand → Option ResolveFault
first_refusal [] = None
first_refusal (d ∷ more) = elim d.holds [ true ↦ first_refusal more | false ↦ Some d.refusal ]

-- the first, or the second where that is none
abbrev pub first_there : Option ResolveFault → Option ResolveFault → Option ResolveFault
first_there (Some fault) further = Some fault
first_there None further = further

-- what an answer says of the first refusal; want of memory says nothing
abbrev pub Tells : {A : Type 0} → Option ResolveFault → Result A ResolveFault → Type 0
Tells found (Ok a) = found ≡ None
Tells found (Err faults.Memory) = Unit {0}
Tells found (Err fault) = found ≡ Some fault

-- what an answer says of what was asked for
abbrev pub Judged : {A : Type 0} → List Demand → Result A ResolveFault → Type 0
Judged ds answer = Tells (first_refusal ds) answer

-- that this holds, or else this refusal
abbrev pub ask : Bool → ResolveFault → Demand
ask holds refusal = record { holds = holds; refusal = refusal }

-- nothing of the kind is there already
abbrev pub is_first : Place → Option Place → List Demand
is_first place None = []
is_first place (Some earlier) = ask false (faults.Duplicate place earlier) ∷ []

-- the place of the first that has the name
abbrev pub place_of_name : List PlacedName → List ℕ → Option Place
place_of_name [] name = None
place_of_name (earlier ∷ more) name = if bytes_eq earlier.name name then Some earlier.place else place_of_name more name

-- the name is not among the earlier ones
abbrev pub is_new : List PlacedName → PlacedName → List Demand
is_new before name = is_first name.place (place_of_name before name.name)

-- where a local is written
abbrev pub place_of_local : Local → Place
place_of_local (locals.Named written) = written.place
place_of_local (locals.Numbered number place) = place

-- the local is a value of the function, or a block of it
abbrev pub is_local : Locals → Bool → Local → Demand
is_local all block written = ask (is_there all block (local_in written)) (faults.UnknownName (place_of_local written) (spelled_local (local_in written)))

-- from -2^(bits-1) to 2^bits - 1
abbrev pub fits : ℕ → Integer → Bool
fits bits written = if written.negative then nat_le written.magnitude (2 ^ (bits - 1)) else nat_lt written.magnitude (2 ^ bits)

-- at least 0
abbrev pub is_natural : Integer → Bool
is_natural written = not written.negative || nat_le written.magnitude 0

-- an integer of so many bits
abbrev pub integer_fits : ℕ → Integer → Demand
integer_fits bits written = ask (fits bits written) (faults.ConstantRange written.place)

-- an alignment or an index, from 0 to 2^32 - 1
abbrev pub is_index : Integer → Demand
is_index written = ask (is_natural written && nat_lt written.magnitude INDEX_LIMIT) (faults.ConstantRange written.place)

-- the length of an array, not negative
abbrev pub is_length : Integer → Demand
is_length written = ask (is_natural written) (faults.ConstantRange written.place)

-- whether it nests past the limit; what holds a struct that contains itself has no nesting
abbrev pub is_deep : Option Measure → Bool
is_deep None = false
is_deep (Some measure) = nat_lt NESTING_LIMIT measure.nesting

-- whether a size is past its limit; what has no layout has none
abbrev pub is_large_size : Option Layout → Bool
is_large_size None = false
is_large_size (Some layout) = nat_lt SIZE_LIMIT layout.size

-- a size or a number of parts is past its limit
abbrev pub is_large : Option Measure → Bool
is_large None = false
is_large (Some measure) = nat_lt PARTS_LIMIT measure.parts || is_large_size measure.layout

-- it does not nest too deep
abbrev pub nests : Place → Option Measure → Demand
nests place measure = ask (not (is_deep measure)) (faults.TooDeep place)

-- it is not past a limit itself, or a type inside it is
abbrev pub is_small : Place → (past inside : Bool) → Demand
is_small place past inside = ask (not past || inside) (faults.TooLarge place)
