-- An instruction under other names of globals and structs comes to the same action, where the names mean the same.
use Rattle.std.specs.Prelude.{◌≡◌, ℕ, ◌+◌, Bool, List, [], ◌∷◌, ◌++◌, map, flat_map, zip, take, drop, Option, Some, None, unwrap_or, refl, ⊤}
use Rattle.std.proofs.Common.{ap}
use Rattle.std.specs.Option.{option_map, option_map_or}
use Rattle.ir_tables.specs.declared.flag.Flag.TheVariants.{Inbounds, Samesign}
use Rattle.ir_tables.specs.Flags.{has_flag}
use Rattle.ir_eval.specs.declared.value.Scalar.TheVariants as scalar
use Rattle.module_arena.specs.Module.{Bytes, Value, Operand, Incoming, Operation, Block}
use Rattle.module_arena.specs.Module.Operation.{BinaryOperation, Compare, Convert, Select, Freeze, Phi, Load, Store, Alloca, GetElementPtr, Call, ExtractValue, InsertValue}
use Rattle.module_arena.specs.Module.Value.{Local, Known}
use Rattle.module_arena.specs.Renamed.{renamed_tree, renamed_value, renamed_operand, renamed_operation, renamed_block}
use Rattle.type_table.specs.Layout.{size, align, leaves}
use Rattle.type_table.specs.Shape.{Shape}
use Rattle.type_table.specs.Tree.{Tree, ptr}
use Rattle.run_rules.specs.Action.{Origin, Action, Signature}
use Rattle.run_rules.specs.Constant.{Names, shape_of}
use Rattle.run_rules.specs.Displace.{TermIndex, terms_of}
use Rattle.run_rules.specs.Leaves.{slots, is_pointer, part, leaves_before_part, width}
use Rattle.run_rules.specs.Resolve.{index_in, operation_in}
use Rattle.run_rules.specs.Scope.{FunctionScope, Placed, value_in, operand_in, one_origin, scalar_in}
use Rattle.run_rules.proofs.OnLaws.SameConstants.{Agree, ConstantIn, same_constant}

module _ (T : Tree → Type 0) (G : Bytes → Type 0) where
  abbrev pub ValueIn : Tree → Value → Type 0
  ValueIn t (Local name) = ⊤
  ValueIn t (Known constant) = ConstantIn T G t constant

  abbrev pub OperandIn : Operand → Type 0
  OperandIn o = T o.ty × ValueIn o.ty o.value

  abbrev pub OperandsIn : List Operand → Type 0
  OperandsIn [] = ⊤
  OperandsIn (o ∷ os) = OperandIn o × OperandsIn os

  abbrev pub TypesIn : List Tree → Type 0
  TypesIn [] = ⊤
  TypesIn (t ∷ ts) = T t × TypesIn ts

  abbrev pub CountIn : Option Operand → Type 0
  CountIn None = ⊤
  CountIn (Some o) = OperandIn o

  abbrev pub IncomingIn : Tree → List Incoming → Type 0
  IncomingIn t [] = ⊤
  IncomingIn t (x ∷ xs) = ValueIn t x.value × IncomingIn t xs

  -- the types and the globals of an instruction are known
  abbrev pub OperationIn : Operation → Type 0
  OperationIn (BinaryOperation opcode flags left right) = OperandIn left × ValueIn left.ty right
  OperationIn (Compare flags predicate left right) = OperandIn left × ValueIn left.ty right
  OperationIn (Convert opcode flags value to) = OperandIn value × T to
  OperationIn (Select condition first second) = OperandIn condition × OperandIn first × OperandIn second
  OperationIn (Freeze value) = OperandIn value
  OperationIn (Phi ty incoming) = T ty × IncomingIn ty incoming
  OperationIn (Load flags ty address alignment) = T ty × OperandIn address
  OperationIn (Store flags value address alignment) = OperandIn value × OperandIn address
  OperationIn (Alloca ty count alignment) = T ty × CountIn count
  OperationIn (GetElementPtr flags source base indices) = T source × OperandIn base × OperandsIn indices
  OperationIn (Call signature callee arguments) = T signature.returns × TypesIn signature.parameters × ValueIn ptr callee × OperandsIn arguments
  OperationIn (ExtractValue aggregate indices) = OperandIn aggregate
  OperationIn (InsertValue aggregate new indices) = OperandIn aggregate × OperandIn new

abbrev pub scope_with : Names → List Placed → List Block → FunctionScope
scope_with names locals blocks = record { names = names; locals = locals; blocks = blocks }

module _ (old new : Names) (structs globals : Bytes → Bytes) (T : Tree → Type 0) (G : Bytes → Type 0) (agree : Agree old new structs globals T G) (locals : List Placed) (blocks : List Block) where
  abbrev before : FunctionScope
  before = scope_with old locals blocks

  abbrev after : FunctionScope
  after = scope_with new locals (map (renamed_block structs globals) blocks)

  pub same_value : (t : Tree) (v : Value) → ValueIn T G t v → value_in after (renamed_tree structs t) (renamed_value structs globals v) ≡ value_in before t v
  same_value t (Local name) h = refl
  same_value t (Known constant) h = ap (map Origin.Known) (same_constant old new structs globals T G agree t constant h)

  pub same_operand : (o : Operand) → OperandIn T G o → operand_in after (renamed_operand structs globals o) ≡ operand_in before o
  same_operand o h = same_value o.ty o.value h.1

  same_type : (o : Operand) → OperandIn T G o → shape_of new (renamed_tree structs o.ty) ≡ shape_of old o.ty
  same_type o h = agree.same_shape o.ty h.0

  abbrev index : List Origin → Shape → TermIndex
  index origins s = record { origin = one_origin origins; width = width s }

  same_indices : (os : List Operand) → OperandsIn T G os → map (index_in after) (map (renamed_operand structs globals) os) ≡ map (index_in before) os
  same_indices [] h = refl
  same_indices (o ∷ os) h = λ i. index (same_operand o h.0 i) (same_type o h.0 i) ∷ same_indices os h.1 i

  same_leaves : (os : List Operand) → OperandsIn T G os → flat_map (operand_in after) (map (renamed_operand structs globals) os) ≡ flat_map (operand_in before) os
  same_leaves [] h = refl
  same_leaves (o ∷ os) h = λ i. same_operand o h.0 i ++ same_leaves os h.1 i

  same_shapes : (os : List Operand) → OperandsIn T G os → map (λ (a : Operand). shape_of new a.ty) (map (renamed_operand structs globals) os) ≡ map (λ (a : Operand). shape_of old a.ty) os
  same_shapes [] h = refl
  same_shapes (o ∷ os) h = λ i. same_type o h.0 i ∷ same_shapes os h.1 i

  same_types : (ts : List Tree) → TypesIn T G ts → map (shape_of new) (map (renamed_tree structs) ts) ≡ map (shape_of old) ts
  same_types [] h = refl
  same_types (t ∷ ts) h = λ i. agree.same_shape t h.0 i ∷ same_types ts h.1 i

  abbrev signature : Shape → List Shape → Bool → Signature
  signature returns parameters variadic = record { returns = returns; parameters = parameters; variadic = variadic }

  same_count : (count : Option Operand) → CountIn T G count
      → option_map_or (scalar_in after) (option_map (renamed_operand structs globals) count) (Origin.Known (scalar.Int 1)) ≡ option_map_or (scalar_in before) count (Origin.Known (scalar.Int 1))
  same_count None h = refl
  same_count (Some o) h = ap one_origin (same_operand o h)

  abbrev kinds : Shape → List Bool
  kinds s = map (λ x. is_pointer x.leaf) (slots s)

  -- the same action, whatever the place of the result
  pub same_operation : (to : ℕ) (o : Operation) → OperationIn T G o → operation_in after to (renamed_operation structs globals o) ≡ operation_in before to o
  same_operation to (BinaryOperation opcode flags left right) h =
      λ i. Action.Compute to opcode flags (width (same_type left h.0 i)) (one_origin (same_operand left h.0 i)) (one_origin (same_value left.ty right h.1 i))
  same_operation to (Compare flags predicate left right) h =
      λ i. Action.Compare to predicate (has_flag flags Samesign) (width (same_type left h.0 i)) (one_origin (same_operand left h.0 i)) (one_origin (same_value left.ty right h.1 i))
  same_operation to (Convert opcode flags value type) h =
      λ i. Action.Convert to opcode flags (width (same_type value h.0 i)) (width (agree.same_shape type h.1 i)) (one_origin (same_operand value h.0 i))
  same_operation to (Select condition first second) h =
      λ i. Action.Select to (one_origin (same_operand condition h.0 i)) (zip (same_operand first h.1 i) (same_operand second h.2 i))
  same_operation to (Freeze value) h = λ i. Action.Freeze to (zip (kinds (same_type value h i)) (same_operand value h i))
  same_operation to (Phi ty incoming) h = refl
  same_operation to (Load flags ty address alignment) h =
      λ i. Action.Load to (unwrap_or alignment (align (agree.same_shape ty h.0 i))) (one_origin (same_operand address h.1 i)) (slots (agree.same_shape ty h.0 i))
  same_operation to (Store flags value address alignment) h =
      λ i. Action.Store (unwrap_or alignment (align (same_type value h.0 i))) (one_origin (same_operand address h.1 i)) (zip (slots (same_type value h.0 i)) (same_operand value h.0 i))
  same_operation to (Alloca ty count alignment) h =
      λ i. Action.Allocate to (size (agree.same_shape ty h.0 i)) (unwrap_or alignment (align (agree.same_shape ty h.0 i))) (same_count count h.1 i)
  same_operation to (GetElementPtr flags source base indices) h =
      λ i. Action.Displace to (has_flag flags Inbounds) (one_origin (same_operand base h.1 i)) (terms_of (agree.same_shape source h.0 i) (same_indices indices h.2 i))
  same_operation to (Call called callee arguments) h =
      λ i. Action.Call to (signature (agree.same_shape called.returns h.0 i) (same_types called.parameters h.1 i) called.variadic) (one_origin (same_value ptr callee h.2 i))
      (same_shapes arguments h.3 i) (same_leaves arguments h.3 i)
  same_operation to (ExtractValue aggregate indices) h =
      λ i. Action.Gather to (take (leaves (part (same_type aggregate h i) indices)) (drop (leaves_before_part (same_type aggregate h i) indices) (same_operand aggregate h i)))
  same_operation to (InsertValue aggregate inserted indices) h =
      λ i. Action.Gather to (
      take (leaves_before_part (same_type aggregate h.0 i) indices) (same_operand aggregate h.0 i) ++ same_operand inserted h.1 i
      ++ drop (leaves_before_part (same_type aggregate h.0 i) indices + leaves (part (same_type aggregate h.0 i) indices)) (same_operand aggregate h.0 i))
