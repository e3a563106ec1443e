-- For `local_types`, `has_type`, `operation_passes`, `types_pass`, `ending_types_pass`, `judge_last` and `judge_ending_last`, and how
-- the code reads: values by the ids of an arena. What a local value is called plays no part but for its type.
use Rattle.std.specs.Prelude.{◌≡◌, ℕ, ◌<◌, ◌&&◌, Bool, true, false, List, [], ◌∷◌, All, ⊤, length, slice_index_or, Option, Some, None}
use Rattle.type_table.specs.Tree.{Tree, int, ptr}
use Rattle.type_table.specs.Types.{Types, tree, trees, structs}
use Rattle.module_arena.specs.declared.constant.Const.{Const}
use Rattle.module_arena.specs.declared.constant.Const.TheVariants as const
use Rattle.module_arena.specs.declared.constant.TypedConst.{TypedConst}
use Rattle.module_arena.specs.declared.instruction.Operand.{Operand}
use Rattle.module_arena.specs.declared.instruction.Value.{Value}
use Rattle.module_arena.specs.declared.instruction.Value.TheVariants as value
use Rattle.module_arena.specs.Constants.{fits}
use Rattle.module_arena.specs.Functions.{local_type}
use Rattle.module_arena.specs.Lists.{Lists}
use Rattle.module_arena.specs.Module as meant
use Rattle.module_arena.specs.Same.{same_type}
use Rattle.module_arena.specs.TypeTests.{is_pointer, is_type}
use Rattle.module_arena.specs.ValueRules.{value_fits}
use Rattle.module_arena.specs.View.{constant_at, constants_of, value_view}
use Rattle.instruction_verify.specs.declared.last.local_type.LocalType.{LocalType}
use Rattle.instruction_verify.specs.declared.last.local_type.LocalType.TheVariants as known

-- a constant is one of so many; of a local value nothing is asked
abbrev pub HasConstant : ℕ → Value → Type 0
HasConstant constants (value.Local id) = ⊤
HasConstant constants (value.Known id) = id < constants

-- the type is one of the arena, and a constant too
abbrev pub IsTyped : Lists → Operand → Type 0
IsTyped a o = (o.ty < length a.table.types) × HasConstant (length a.constants) o.value

-- what a value is, where names play no part
abbrev pub value_of : Lists → Value → meant.Value
value_of a v = value_view (trees a.table) (constants_of a) [] [] v

-- a constant fits the type that is written before it
abbrev pub fits_here : Lists → Operand → Bool
fits_here a o = value_fits (structs a.table) (tree a.table o.ty) (value_of a o.value)

-- it is a type, that of pointers, and the constant fits it
abbrev pub fits_pointer : Lists → (ty id : ℕ) → Bool
fits_pointer a ty id = is_pointer (tree a.table ty) && fits (structs a.table) (tree a.table ty) (constant_at (constants_of a) id)

-- the base of an address is a pointer, and the constant with that id fits its type
abbrev pub fits_base : Lists → ℕ → List TypedConst → Bool
fits_base a id [] = false
fits_base a id (base ∷ indices) = fits_pointer a base.ty id

-- the constant with that id, which is this, fits `ptr`
abbrev pub fits_as_pointer : Lists → ℕ → Const → Bool
fits_as_pointer a id const.Null = true
fits_as_pointer a id const.Undef = true
fits_as_pointer a id const.Poison = true
fits_as_pointer a id const.ZeroInitializer = true
fits_as_pointer a id (const.Address g) = true
fits_as_pointer a id (const.Cast opcode operand to) = fits_pointer a to id
fits_as_pointer a id (const.ElementAddress flags address) = fits_base a id address.operands
fits_as_pointer a id c = false

-- the constant is a pointer
abbrev pub is_pointer_const : Types → Const → Bool
is_pointer_const t const.Null = true
is_pointer_const t const.Undef = true
is_pointer_const t const.Poison = true
is_pointer_const t const.ZeroInitializer = true
is_pointer_const t (const.Address g) = true
is_pointer_const t (const.ElementAddress flags address) = true
is_pointer_const t (const.Cast opcode operand to) = is_pointer (tree t to)
is_pointer_const t c = false

-- ---- types of local values

-- what is known of the type of a local value is of the table
abbrev pub IsOf : Types → LocalType → Type 0
IsOf t (known.Written ty) = ty < length t.types
IsOf t x = ⊤

-- the type itself, where there is one
abbrev pub tree_of : Types → LocalType → Option Tree
tree_of t (known.Written ty) = Some (tree t ty)
tree_of t known.Truth = Some (int 1)
tree_of t known.Pointer = Some ptr
tree_of t known.Nothing = None

-- the type of a local value, from the list of these types
abbrev pub type_in : Types → List LocalType → ℕ → Option Tree
type_in t types id = tree_of t (slice_index_or types id known.Nothing)

-- each type in the list is one of the table
abbrev pub AreTypes : Types → List LocalType → Type 0
AreTypes t types = All (IsOf t) types

-- as far as the list goes, it has the type of each parameter and result of a function, by the names of these
abbrev pub AreLocalTypes : Lists → meant.Function → List meant.LocalName → List LocalType → Type 0
AreLocalTypes a f values types =
    (id : ℕ) → id < length types → local_type (structs a.table) f (slice_index_or values id (meant.LocalName.Numbered 0)) ≡ type_in a.table types id

-- a local value has this type
abbrev pub has_type : Types → List LocalType → ℕ → Value → Bool
has_type t types ty (value.Local id) = is_type (same_type (tree t ty)) (type_in t types id)
has_type t types ty (value.Known id) = true

-- it has the type that is written before it
abbrev pub has_own_type : Types → List LocalType → Operand → Bool
has_own_type t types o = has_type t types o.ty o.value
