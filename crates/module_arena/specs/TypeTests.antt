-- For `Checked::seal`: what is asked of types.
use Rattle.std.specs.Prelude.{ℕ, zero, suc, Bool, true, false, ◌&&◌, ◌==◌, nat_le, nat_lt, List, [], ◌∷◌, Option, Some, None, is_some, option_and_then, if◌then◌else◌}
use Rattle.type_table.specs.declared.layout.Layout.{Layout}
use Rattle.type_table.specs.Layout.{layout}
use Rattle.type_table.specs.Shape.{shape}
use Rattle.type_table.specs.Tree.{Tree, int, ptr, void, array, struct, named, Trees, no_trees, more_trees, TreeBody, opaque_body, fields, Structs, body_of}
use Rattle.module_arena.specs.declared.arena.TheConstants.{LEAF_LIMIT}
use Rattle.module_arena.specs.Module.{Bytes}

-- an integer type
abbrev pub is_integer : Tree → Bool
is_integer (int width) = true
is_integer _ = false

-- the integer type of that width
abbrev pub is_integer_of : ℕ → Tree → Bool
is_integer_of width (int w) = w == width
is_integer_of width _ = false

-- the width of an integer type
abbrev pub width_of : Tree → Option ℕ
width_of (int width) = Some width
width_of _ = None

-- `ptr`
abbrev pub is_pointer : Tree → Bool
is_pointer ptr = true
is_pointer _ = false

-- `void`
abbrev pub is_void : Tree → Bool
is_void void = true
is_void _ = false

abbrev mutual
  -- whether `void` is not written in a type
  pub is_free_of_void : Tree → Bool
  is_free_of_void (int width) = true
  is_free_of_void ptr = true
  is_free_of_void void = false
  is_free_of_void (array n t) = is_free_of_void t
  is_free_of_void (struct packed ts) = are_free_of_void ts
  is_free_of_void (named name) = true

  -- the same of several types
  pub are_free_of_void : Trees → Bool
  are_free_of_void no_trees = true
  are_free_of_void (more_trees t ts) = is_free_of_void t && are_free_of_void ts

abbrev mutual
  -- whether no struct is named in a type
  pub is_free_of_names : Tree → Bool
  is_free_of_names (int width) = true
  is_free_of_names ptr = true
  is_free_of_names void = true
  is_free_of_names (array n t) = is_free_of_names t
  is_free_of_names (struct packed ts) = are_free_of_names ts
  is_free_of_names (named name) = false

  -- the same of several types
  pub are_free_of_names : Trees → Bool
  are_free_of_names no_trees = true
  are_free_of_names (more_trees t ts) = is_free_of_names t && are_free_of_names ts

-- how a type lies in memory, where it does
abbrev pub type_layout : Structs → Tree → Option Layout
type_layout structs t = option_and_then layout (shape structs t)

-- the type has a layout
abbrev pub lies_in_memory : Structs → Tree → Bool
lies_in_memory structs t = is_some (type_layout structs t)

-- a layout of no more leaves than a value has that is handed on
abbrev pub is_small_layout : Option Layout → Bool
is_small_layout None = false
is_small_layout (Some l) = nat_le l.leaves LEAF_LIMIT

-- a type of values that are handed on: it lies in memory, and has at most 65,536 leaves
abbrev pub is_passable : Structs → Tree → Bool
is_passable structs t = is_small_layout (type_layout structs t)

-- what a struct's name stands for
abbrev pub struct_of_body : Bytes → TreeBody → Tree
struct_of_body name opaque_body = named name
struct_of_body name (fields packed ts) = struct packed ts

-- the type with a struct's name replaced by its body, once; an opaque struct stays a name
abbrev pub opened : Structs → Tree → Tree
opened structs (int width) = int width
opened structs ptr = ptr
opened structs void = void
opened structs (array n t) = array n t
opened structs (struct packed ts) = struct packed ts
opened structs (named name) = struct_of_body name (body_of structs name)

-- the type of field number k
abbrev pub field_type : Trees → ℕ → Option Tree
field_type no_trees k = None
field_type (more_trees t ts) zero = Some t
field_type (more_trees t ts) (suc k) = field_type ts k

-- the type of part number k of an array or a struct
abbrev pub part_type : Tree → ℕ → Option Tree
part_type (array n t) k = if nat_lt k n then Some t else None
part_type (struct packed ts) k = field_type ts k
part_type _ k = None

-- the type of the part that the indices lead to, one after the other
abbrev pub part_at : Structs → Tree → List ℕ → Option Tree
part_at structs t [] = Some t
part_at structs t (k ∷ ks) = option_and_then (λ part. part_at structs part ks) (part_type (opened structs t) k)

-- whether there is a type, and it is this one
abbrev pub is_type : (Tree → Bool) → Option Tree → Bool
is_type test None = false
is_type test (Some t) = test t
