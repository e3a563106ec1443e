-- The leaves of constants one behind the other.
use Rattle.std.proofs.Common.{List}
use Rattle.ir_eval.specs.declared.value.Scalar.{Scalar}
use Rattle.type_table.specs.Types.{tree}
use Rattle.module_arena.specs.declared.constant.TypedConst.{TypedConst}
use Rattle.module_arena.specs.Lists.{Lists}
use Rattle.run_rules.specs.Constant.{constant_value, constant_values}
use Rattle.run_initial.specs.Constants.Sound.{constant_of, constants_with_types, names_of}

-- the leaves of some parts, and of one
abbrev pub values_of : Lists → List TypedConst → List Scalar
values_of a parts = constant_values (names_of a) (constants_with_types a parts)

abbrev pub value_of : Lists → TypedConst → List Scalar
value_of a part = constant_value (names_of a) (tree a.table part.ty) (constant_of a part.value)
