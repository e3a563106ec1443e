-- For `element_of`: the types of the elements of appended arrays, by which they conflict.
use Rattle.std.specs.Prelude.{◌≡◌, ℕ, ◌<◌, length, slice_get, Some}
use Rattle.type_table.specs.declared.ir_type.IrType.{IrType}
use Rattle.type_table.specs.declared.ir_type.IrType.TheVariants.{Int, Ptr, Void, Array, Struct, Named}
use Rattle.type_table.specs.Types.{tree}
use Rattle.module_arena.specs.declared.entry.Variable.{Variable}
use Rattle.module_arena.specs.Lists.{Lists}
use Rattle.linkage_rules.specs.Globals.{element_of}

-- the type of an array's elements, and any other type itself
abbrev pub element_id : ℕ → IrType → ℕ
element_id own (Array n part) = part
element_id own (Int w) = own
element_id own Ptr = own
element_id own Void = own
element_id own (Struct packed parts) = own
element_id own (Named id) = own

-- a type of the arena, the one of the elements of that variable
pub record IsElement (a : Lists) (number ty : ℕ) : Type 0 where
  pub known : ty < length a.table.types
  pub element : (v : Variable) → slice_get a.variables number ≡ Some v → tree a.table ty ≡ element_of (tree a.table v.ty)
