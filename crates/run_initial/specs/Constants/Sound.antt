-- For `leaf_of`, `pointer_leaf` and `push_leaves`: constants that stand as those of a checked module do, and what one of a module means in
-- a run of the module alone.
use Rattle.std.specs.Prelude.{◌≡◌, ℕ, ◌<◌, Bool, true, false, ◌||◌, List, length}
use Rattle.std.specs.List.{list_all}
use Rattle.ir_eval.specs.declared.value.Scalar.{Scalar}
use Rattle.ir_eval.specs.Value.{IsInteger, IsPointer}
use Rattle.ir_memory.specs.declared.leaf.Leaf.{Leaf}
use Rattle.ir_memory.specs.declared.leaf.Leaf.TheVariants as leaf
use Rattle.type_table.specs.Tree.{Tree, int, ptr}
use Rattle.type_table.specs.Types.{tree, trees}
use Rattle.module_arena.specs.declared.constant.TypedConst.{TypedConst}
use Rattle.module_arena.specs.Constants.{constants_in, fits}
use Rattle.module_arena.specs.EntryRules.{constant_types_suit}
use Rattle.module_arena.specs.Lists.{Lists}
use Rattle.module_arena.specs.Module.{Constant, Undef, Poison, ZeroInitializer, ByteString, Aggregate, Constants, Module}
use Rattle.module_arena.specs.TypeTests.{is_integer, is_pointer}
use Rattle.module_arena.specs.View.{constant_at, constants_at, constants_of, module_of}
use Rattle.module_arena.specs.WellFormed.{is_good_part}
use Rattle.run_names.specs.Told.{alone}
use Rattle.run_rules.specs.Constant.{Names}
use Rattle.run_rules.specs.Look.{names_in}

-- what the names of a module mean in a run of it alone
abbrev pub names_of : Lists → Names
names_of a = names_in (alone (module_of a)) 0

-- the constant with an id
abbrev pub constant_of : Lists → ℕ → Constant
constant_of a id = constant_at (constants_of a) id

-- constants with the types that are written before them
abbrev pub constants_with_types : Lists → List TypedConst → Constants
constants_with_types a parts = constants_at (trees a.table) (constants_of a) parts

-- A constant can stand at a type: it fits the type, it and all constants within it are well formed, and the types suit that they
-- write. A checked module writes no other
pub record IsSound (m : Module) (t : Tree) (c : Constant) : Type 0 where
  pub fits : fits m.structs t c ≡ true
  pub good : list_all (is_good_part m) (constants_in t c) ≡ true
  pub suits : constant_types_suit m.structs t c ≡ true

-- a constant of the arena and its type, at which it can stand
pub record IsPart (a : Lists) (part : TypedConst) : Type 0 where
  pub ty : part.ty < length a.table.types
  pub value : part.value < length a.constants
  pub sound : IsSound (module_of a) (tree a.table part.ty) (constant_of a part.value)

-- a type of one leaf
abbrev pub is_scalar : Tree → Bool
is_scalar t = is_integer t || is_pointer t

-- the type of a leaf
abbrev pub leaf_tree : Leaf → Tree
leaf_tree (leaf.Int width) = int width
leaf_tree leaf.Ptr = ptr

-- a leaf of that kind, or poison
abbrev pub IsOfKind : Leaf → Scalar → Type 0
IsOfKind (leaf.Int width) value = IsInteger width value
IsOfKind leaf.Ptr value = IsPointer value

-- the width of a leaf; that of a pointer is written 64
abbrev pub width_of : Leaf → ℕ
width_of (leaf.Int width) = width
width_of leaf.Ptr = 64

-- the same of a leaf of a type
abbrev pub HasType : Tree → Scalar → Type 0
HasType (int width) value = IsInteger width value
HasType ptr value = IsPointer value
HasType _ value = Unit {0}

-- a constant that is of one leaf whatever its type
abbrev pub is_single : Constant → Bool
is_single Undef = false
is_single Poison = false
is_single ZeroInitializer = false
is_single (ByteString bytes) = false
is_single (Aggregate round elements) = false
is_single _ = true
