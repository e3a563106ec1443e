-- Says how the code of `declare_variables` reads: the elements of an array type.
use Rattle.std.specs.Prelude.{ℕ, Option, Some, None}
use Rattle.type_table.specs.declared.ir_type.IrType.{IrType}
use Rattle.type_table.specs.declared.ir_type.IrType.TheVariants.{Int, Ptr, Void, Array, Struct, Named}

-- the type of the elements, where the type is an array
abbrev pub element_of : IrType → Option ℕ
element_of (Array n element) = Some element
element_of (Int width) = None
element_of Ptr = None
element_of Void = None
element_of (Struct packed parts) = None
element_of (Named id) = None
