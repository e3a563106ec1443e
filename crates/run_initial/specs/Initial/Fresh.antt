-- For `put_leaf`, `put_bytes` and `put_constant`: what is to be stored into memory that is fresh, and values of which each leaf is filled alike.
use Rattle.std.specs.Prelude.{◌≡◌, Bool, true, false, not, ◌&&◌, ◌||◌, nat_eq, List, map, filter, Result, Ok}
use Rattle.ir_tables.specs.declared.undefined_kind.UndefinedKind.{UndefinedKind}
use Rattle.ir_eval.specs.declared.value.Pointer.{Pointer}
use Rattle.ir_eval.specs.declared.value.Scalar.{Scalar}
use Rattle.ir_eval.specs.declared.value.Scalar.TheVariants as scalar
use Rattle.ir_memory.specs.Memory.{Blocks}
use Rattle.type_table.specs.Layout.{leaves}
use Rattle.type_table.specs.Shape.{Shape, int_leaf, ptr_leaf, void_leaf, opaque_leaf, array_of, struct_of, Shapes, no_shapes, more_shapes}
use Rattle.run_rules.specs.Access.{stored_slots}
use Rattle.run_rules.specs.Leaves.{Slot}
use Rattle.run_rules.specs.Plan.{Contents}
use Rattle.run_initial.specs.declared.constants.filled.Fill.{Fill}
use Rattle.run_initial.specs.declared.constants.filled.Fill.TheVariants.{Zero, Poison}
use Rattle.run_initial.specs.Constants.Filled.{leaf_in}

-- fresh memory reads as this: its bytes are 0. A null that is stored is a pointer still, and no bytes
abbrev pub is_fresh : Scalar → Bool
is_fresh (scalar.Int n) = nat_eq n 0
is_fresh (scalar.Ptr p) = false
is_fresh scalar.Poison = false

-- what is to be stored of contents into fresh memory
abbrev pub to_store : Contents → Contents
to_store xs = filter (λ x. not (is_fresh x.1)) xs

-- memory after that is stored behind a pointer, or why it cannot be
abbrev pub put : Pointer → Contents → Blocks → Result Blocks UndefinedKind
put p xs m = stored_slots p 1 (to_store xs) m

-- that is stored
abbrev pub Puts : Pointer → Contents → Blocks → Blocks → Type 0
Puts p xs old new = put p xs old ≡ Ok new

-- a value that is filled so
abbrev pub filled : Fill → List Slot → Contents
filled fill slots = map (λ s. (s, leaf_in fill s.leaf)) slots

abbrev mutual
  -- a value has a pointer among its leaves
  pub has_pointer : Shape → Bool
  has_pointer (int_leaf w) = false
  has_pointer ptr_leaf = true
  has_pointer void_leaf = false
  has_pointer (opaque_leaf label) = false
  has_pointer (array_of n s) = not (nat_eq n 0) && has_pointer s
  has_pointer (struct_of label packed ss) = have_pointers ss

  -- one of some values has
  pub have_pointers : Shapes → Bool
  have_pointers no_shapes = false
  have_pointers (more_shapes s ss) = has_pointer s || have_pointers ss

-- something is to be stored of a value that is filled so: of zeros the pointers, of poison each leaf
abbrev pub needed_of : Fill → Shape → Bool
needed_of Zero s = has_pointer s
needed_of Poison s = not (nat_eq (leaves s) 0)

-- the parts follow one another without a gap: the fields of a packed struct, and the elements of an array
abbrev pub is_packed : Shape → Bool
is_packed (struct_of label packed ss) = packed
is_packed (int_leaf w) = true
is_packed ptr_leaf = true
is_packed void_leaf = true
is_packed (opaque_leaf label) = true
is_packed (array_of n s) = true
