-- For `Measure::is_too_large`, and how the code reads: what holds of the measures that a table keeps.
use Rattle.std.specs.Prelude.{◌≡◌, ℕ, ◌<◌, ◌≤◌, ◌⊎◌, Bool, true, false, List, length, All, Any, ⊤, Option, Some, None, slice_index_or, set}
use Rattle.type_table.specs.declared.fault.TypeFault.{TypeFault}
use Rattle.type_table.specs.declared.fault.TypeFault.TheVariants.{Duplicate, SelfContaining, TooDeep, TooLarge, Memory}
use Rattle.type_table.specs.declared.ir_type.IrType.{IrType}
use Rattle.type_table.specs.declared.ir_type.IrType.TheVariants.{Int, Ptr, Void, Array, Struct, Named}
use Rattle.type_table.specs.declared.layout.Layout.{Layout}
use Rattle.type_table.specs.declared.measure.Measure.{Measure}
use Rattle.type_table.specs.declared.measure.TheConstants.{NESTING_LIMIT, PARTS_LIMIT, SIZE_LIMIT}
use Rattle.type_table.specs.Measures.{type_measures, measure_of, Measures}
use Rattle.type_table.specs.Tree.{body_of}
use Rattle.type_table.specs.Types.{Types, names, structs, IsGood}

-- the size, where there is one, is within the limit
abbrev pub HasSmallSize : Option Layout → Type 0
HasSmallSize None = ⊤
HasSmallSize (Some l) = l.size ≤ SIZE_LIMIT

-- no number is past its limit
pub record IsSmall (m : Measure) : Type 0 where
  pub nests : m.nesting ≤ NESTING_LIMIT
  pub parts_fit : m.parts ≤ PARTS_LIMIT
  pub size_fits : HasSmallSize m.layout

-- there is a size, and it is past the limit
abbrev pub HasLargeSize : Option Layout → Type 0
HasLargeSize None = ⊥
HasLargeSize (Some l) = SIZE_LIMIT < l.size

-- a number other than the nesting is past its limit
abbrev pub IsLarge : Measure → Type 0
IsLarge m = (PARTS_LIMIT < m.parts) ⊎ HasLargeSize m.layout

-- what is wrong with some of these measures: the first of these that is
abbrev pub HasListFault : List Measure → TypeFault → Type 0
HasListFault ms Duplicate = ⊥
HasListFault ms SelfContaining = ⊥
HasListFault ms TooDeep = Any (λ m. NESTING_LIMIT < m.nesting) ms
HasListFault ms TooLarge = All (λ m. m.nesting ≤ NESTING_LIMIT) ms × Any IsLarge ms
HasListFault ms Memory = ⊥

-- how many elements a type has if it is an array
abbrev pub type_length : IrType → ℕ
type_length (Int w) = 0
type_length Ptr = 0
type_length Void = 0
type_length (Array n part) = n
type_length (Struct packed parts) = 0
type_length (Named id) = 0

-- these are the measures of the table's structs and types, each found from those of its parts
pub record IsMeasured (t : Types) (struct_list type_list : List Measure) : Type 0 where
  pub good : IsGood t
  pub as_many : length struct_list ≡ length t.structs
  pub types_kept : type_list ≡ type_measures struct_list t.types
  pub structs_kept : Measures (body_of (structs t)) (measure_of (names t) struct_list)

-- the same, in a table of which no type is past a limit
pub record IsKept (t : Types) (struct_list type_list : List Measure) : Type 0 where
  pub measured : IsMeasured t struct_list type_list
  pub small_structs : All IsSmall struct_list
  pub small_types : All IsSmall type_list
  pub lengths : All (λ ty. type_length ty ≤ SIZE_LIMIT) t.types

-- where the type is a struct's name, the struct's flag is set
abbrev pub IsFlagged : List Bool → IrType → Type 0
IsFlagged flags (Int w) = ⊤
IsFlagged flags Ptr = ⊤
IsFlagged flags Void = ⊤
IsFlagged flags (Array n part) = ⊤
IsFlagged flags (Struct packed parts) = ⊤
IsFlagged flags (Named id) = slice_index_or flags id false ≡ true

-- the flags, with that of the struct set whose name the type is
abbrev pub flagged_by : List Bool → IrType → List Bool
flagged_by flags (Int w) = flags
flagged_by flags Ptr = flags
flagged_by flags Void = flags
flagged_by flags (Array n part) = flags
flagged_by flags (Struct packed parts) = flags
flagged_by flags (Named id) = set flags id true

-- what is kept of a table: measures, and a flag a struct, set where its name is a type
pub record IsTable (t : Types) (struct_list type_list : List Measure) (flags : List Bool) : Type 0 where
  pub kept : IsKept t struct_list type_list
  pub as_many_flags : length flags ≡ length t.structs
  pub flagged : All (IsFlagged flags) t.types
