-- For `equal_look_ups_give_equal_runs`: what a function's own names mean: its parameters and results by their places in a frame,
-- its blocks by their numbers.
use Rattle.std.specs.Prelude.{ℕ, ◌+◌, List, [], ◌∷◌, ◌++◌, map, flat_map, find, position, Option, unwrap_or, sum}
use Rattle.std.specs.Option.{option_map_or, option_and_then}
use Rattle.std.specs.List.{range_with_len}
use Rattle.ir_eval.specs.declared.value.Scalar.TheVariants as scalar
use Rattle.module_arena.specs.Module.{LocalName, Value, Operand, Operation, Instruction, Block, Function}
use Rattle.module_arena.specs.Module.Value.{Local, Known}
use Rattle.module_arena.specs.Module.Operation.{BinaryOperation, Compare, Convert, Select, Freeze, Phi, Load, Store, Alloca, GetElementPtr, Call, ExtractValue, InsertValue}
use Rattle.module_arena.specs.Same.{same_local}
use Rattle.type_table.specs.Layout.{leaves}
use Rattle.type_table.specs.Shape.{Shape, int_leaf, ptr_leaf, void_leaf}
use Rattle.type_table.specs.Tree.{Tree}
use Rattle.run_rules.specs.Action.{Origin}
use Rattle.run_rules.specs.Constant.{Names, shape_of, constant_value}
use Rattle.run_rules.specs.Leaves.{part}

-- a parameter or result, and where its leaves begin in a frame
pub record Placed : Type 0 where
  pub name : LocalName
  pub shape : Shape
  pub place : ℕ

-- what all names in a function mean
pub record FunctionScope : Type 0 where
  pub names : Names
  pub locals : List Placed
  pub blocks : List Block

-- a parameter or result, and its shape
abbrev pub Typed : Type 0
Typed = LocalName × Shape

-- the parameters in order
abbrev pub parameters_of : Names → Function → List Typed
parameters_of names f = map (λ p. (p.name, shape_of names p.ty)) f.parameters

-- the shape of what an instruction gives
abbrev pub result_shape : Names → Operation → Shape
result_shape names (BinaryOperation opcode flags left right) = shape_of names left.ty
result_shape names (Compare flags predicate left right) = int_leaf 1
result_shape names (Convert opcode flags value to) = shape_of names to
result_shape names (Select condition first second) = shape_of names first.ty
result_shape names (Freeze value) = shape_of names value.ty
result_shape names (Phi ty incoming) = shape_of names ty
result_shape names (Load flags ty address alignment) = shape_of names ty
result_shape names (Store flags value address alignment) = void_leaf
result_shape names (Alloca ty count alignment) = ptr_leaf
result_shape names (GetElementPtr flags source base indices) = ptr_leaf
result_shape names (Call signature callee arguments) = shape_of names signature.returns
result_shape names (ExtractValue aggregate indices) = part (shape_of names aggregate.ty) indices
result_shape names (InsertValue aggregate new indices) = shape_of names aggregate.ty

-- none where the instruction has no result
abbrev pub result_of : Names → Instruction → List Typed
result_of names i = option_map_or (λ name. (name, result_shape names i.operation) ∷ []) i.result []

-- the results of a block in order
abbrev pub results_of : Names → Block → List Typed
results_of names b = flat_map (result_of names) b.instructions

-- the blocks; a declaration has none
abbrev pub blocks_of : Function → List Block
blocks_of f = unwrap_or f.body []

-- the parameters, then the results, in order
abbrev pub locals_of : Names → Function → List Typed
locals_of names f = parameters_of names f ++ flat_map (results_of names) (blocks_of f)

-- one behind the other
abbrev pub placed_from : ℕ → List Typed → List Placed
placed_from place [] = []
placed_from place (x ∷ xs) = record { name = x.0; shape = x.1; place = place } ∷ placed_from (place + leaves x.1) xs

-- the leaves of all parameters and results
abbrev pub leaf_count : Names → Function → ℕ
leaf_count names f = sum (map (λ x. leaves x.1) (locals_of names f))

-- what the names in a function of that part mean
abbrev pub scope_of : Names → Function → FunctionScope
scope_of names f = record { names = names; locals = placed_from 0 (locals_of names f); blocks = blocks_of f }

-- the parameter or result of that name
abbrev pub local_in : FunctionScope → LocalName → Option Placed
local_in sc name = find (λ l. same_local l.name name) sc.locals

-- where a result goes
abbrev pub place_in : FunctionScope → Option LocalName → ℕ
place_in sc name = option_map_or (λ l. l.place) (option_and_then (local_in sc) name) 0

-- the number of a block
abbrev pub block_in : FunctionScope → LocalName → ℕ
block_in sc label = unwrap_or (position (λ b. same_local b.name label) sc.blocks) 0

-- the leaves of a parameter or result
abbrev pub leaves_at : Placed → List Origin
leaves_at l = map Origin.Held (range_with_len l.place (leaves l.shape))

-- where the leaves of a value of that type are had from
abbrev pub value_in : FunctionScope → Tree → Value → List Origin
value_in sc t (Local name) = option_map_or leaves_at (local_in sc name) []
value_in sc t (Known constant) = map Origin.Known (constant_value sc.names t constant)

-- the leaves of an operand
abbrev pub operand_in : FunctionScope → Operand → List Origin
operand_in sc o = value_in sc o.ty o.value

-- the first of them
abbrev pub one_origin : List Origin → Origin
one_origin [] = Origin.Known scalar.Poison
one_origin (o ∷ os) = o

-- the one leaf of an integer or a pointer
abbrev pub scalar_in : FunctionScope → Operand → Origin
scalar_in sc o = one_origin (operand_in sc o)

-- the same of a value whose type is written before another
abbrev pub scalar_of : FunctionScope → Tree → Value → Origin
scalar_of sc t v = one_origin (value_in sc t v)
