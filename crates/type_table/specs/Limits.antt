-- For `add` and `define_struct`: how deep and how large the types of a table may be, and why a change is refused.
use Rattle.std.specs.Prelude.{◌≡◌, ℕ, ◌<◌, ◌≤◌, List, ◌++◌, length, map, All, Any, ⊤, true, slice_index_or, [], Option, Some, None, ◌⊎◌}
use Rattle.type_table.specs.declared.fault.TypeFault.{TypeFault}
use Rattle.type_table.specs.declared.fault.TypeFault.TheVariants.{Duplicate, SelfContaining, TooDeep, TooLarge, Memory}
use Rattle.type_table.specs.declared.measure.TheConstants.{NESTING_LIMIT, PARTS_LIMIT, SIZE_LIMIT}
use Rattle.type_table.specs.Contains.{ContainsItself}
use Rattle.type_table.specs.Layout.{has_layout, size}
use Rattle.type_table.specs.Shape.{Shape, int_leaf, ptr_leaf, void_leaf, opaque_leaf, array_of, struct_of, nesting, parts}
use Rattle.type_table.specs.Shape as shapes
use Rattle.type_table.specs.Tree.{named}
use Rattle.type_table.specs.Types.{Types, names, trees, structs}

-- a type without a shape that holds no struct which contains itself nests without end, or deeper than any limit
abbrev pub IsTooDeep : Option Shape → Type 0
IsTooDeep None = ⊤
IsTooDeep (Some s) = NESTING_LIMIT < nesting s

-- how many elements an array has; no other type counts
abbrev pub array_length : Shape → ℕ
array_length (int_leaf w) = 0
array_length ptr_leaf = 0
array_length void_leaf = 0
array_length (opaque_leaf label) = 0
array_length (array_of n s) = n
array_length (struct_of label packed ss) = 0

-- what has no layout has no size
abbrev pub IsTooLarge : Option Shape → Type 0
IsTooLarge None = ⊥
IsTooLarge (Some s) = (PARTS_LIMIT < parts s) ⊎ ((SIZE_LIMIT < array_length s) ⊎ ((has_layout s ≡ true) × (SIZE_LIMIT < size s)))

-- neither too deep nor too large
pub record Fits (s : Shape) : Type 0 where
  pub nests : nesting s ≤ NESTING_LIMIT
  pub parts_fit : parts s ≤ PARTS_LIMIT
  pub length_fits : array_length s ≤ SIZE_LIMIT
  pub size_fits : has_layout s ≡ true → size s ≤ SIZE_LIMIT

-- there is a shape, and it is within the limits
abbrev pub IsWithinLimits : Option Shape → Type 0
IsWithinLimits None = ⊥
IsWithinLimits (Some s) = Fits s

-- the shapes of the types, and then of the structs
abbrev pub all_shapes : Types → List (Option Shape)
all_shapes t = map (shapes.shape (structs t)) (trees t ++ map named (names t))

-- some struct of the table contains itself
abbrev pub SomeContainsItself : Types → Type 0
SomeContainsItself t = (id : ℕ) × (id < length t.structs) × ContainsItself (structs t) (slice_index_or (names t) id [])

-- no struct contains itself, and no type or struct is too deep or too large
pub record IsWithin (t : Types) : Type 0 where
  pub ends : ¬ SomeContainsItself t
  pub fits : All IsWithinLimits (all_shapes t)

-- what is wrong with a table: the first of these that is. `Memory` says nothing of it
abbrev pub HasFault : Types → TypeFault → Type 0
HasFault t Duplicate = ⊥
HasFault t SelfContaining = SomeContainsItself t
HasFault t TooDeep = (¬ SomeContainsItself t) × Any IsTooDeep (all_shapes t)
HasFault t TooLarge = (¬ SomeContainsItself t) × (¬ Any IsTooDeep (all_shapes t)) × Any IsTooLarge (all_shapes t)
HasFault t Memory = ⊤
