-- For `equal_look_ups_give_equal_runs`: an instruction as an action, with its names looked up and its types laid out.
use Rattle.std.specs.Prelude.{ℕ, ◌+◌, Bool, true, false, List, [], ◌∷◌, ◌++◌, map, flat_map, find, take, drop, length, zip, Option, Some, None, unwrap_or, if◌then◌else◌}
use Rattle.std.specs.Option.{option_map_or}
use Rattle.ir_tables.specs.declared.flag.Flag.TheVariants.{Inbounds, Samesign}
use Rattle.ir_tables.specs.Flags.{has_flag}
use Rattle.ir_eval.specs.declared.value.Scalar.TheVariants as scalar
use Rattle.module_arena.specs.Module.{LocalName, Operand, Incoming, Operation, Instruction, Case, Ending, Block}
use Rattle.module_arena.specs.Module as module_arena
use Rattle.module_arena.specs.Module.Operation.{BinaryOperation, Compare, Convert, Select, Freeze, Phi, Load, Store, Alloca, GetElementPtr, Call, ExtractValue, InsertValue}
use Rattle.module_arena.specs.Module.Ending.{ReturnVoid, Return, Jump, Branch, Switch, Unreachable}
use Rattle.module_arena.specs.Same.{same_local}
use Rattle.type_table.specs.Layout.{size, align, leaves}
use Rattle.type_table.specs.Tree.{Tree, ptr}
use Rattle.run_rules.specs.Action.{Origin, Move, Edge, Signature, Action}
use Rattle.run_rules.specs.Constant.{Names, shape_of, width_of, constant_value, one_leaf}
use Rattle.run_rules.specs.Displace.{TermIndex, terms_of, number_of}
use Rattle.run_rules.specs.Leaves.{slots, is_pointer, part, leaves_before_part}
use Rattle.run_rules.specs.Scope.{FunctionScope, place_in, block_in, value_in, operand_in, scalar_in, scalar_of}

-- a function type with its struct names replaced
abbrev pub signature_in : Names → module_arena.Signature → Signature
signature_in names s = record { returns = shape_of names s.returns; parameters = map (shape_of names) s.parameters; variadic = s.variadic }

-- the alignment that is stated, or else the type's
abbrev pub alignment_in : Names → Option ℕ → Tree → ℕ
alignment_in names stated t = unwrap_or stated (align (shape_of names t))

-- an index of getelementptr
abbrev pub index_in : FunctionScope → Operand → TermIndex
index_in sc o = record { origin = scalar_in sc o; width = width_of sc.names o.ty }

-- how many leaves a part of an operand has
abbrev pub part_leaves : FunctionScope → Operand → List ℕ → ℕ
part_leaves sc o indices = leaves (part (shape_of sc.names o.ty) indices)

-- how many leaves stand before it
abbrev pub leaves_before_in : FunctionScope → Operand → List ℕ → ℕ
leaves_before_in sc o indices = leaves_before_part (shape_of sc.names o.ty) indices

-- the leaves of the part
abbrev pub extracted : FunctionScope → Operand → List ℕ → List Origin
extracted sc o indices = take (part_leaves sc o indices) (drop (leaves_before_in sc o indices) (operand_in sc o))

-- the leaves of the aggregate, with those of the part replaced
abbrev pub inserted : FunctionScope → Operand → Operand → List ℕ → List Origin
inserted sc o new indices =
    take (leaves_before_in sc o indices) (operand_in sc o) ++ operand_in sc new ++ drop (leaves_before_in sc o indices + part_leaves sc o indices) (operand_in sc o)

-- the action of an instruction whose result goes to that place
abbrev pub operation_in : FunctionScope → ℕ → Operation → Action
operation_in sc to (BinaryOperation opcode flags left right) =
    Action.Compute to opcode flags (width_of sc.names left.ty) (scalar_in sc left) (scalar_of sc left.ty right)
operation_in sc to (Compare flags predicate left right) =
    Action.Compare to predicate (has_flag flags Samesign) (width_of sc.names left.ty) (scalar_in sc left) (scalar_of sc left.ty right)
operation_in sc to (Convert opcode flags value type) =
    Action.Convert to opcode flags (width_of sc.names value.ty) (width_of sc.names type) (scalar_in sc value)
operation_in sc to (Select condition first second) =
    Action.Select to (scalar_in sc condition) (zip (operand_in sc first) (operand_in sc second))
operation_in sc to (Freeze value) =
    Action.Freeze to (zip (map (λ s. is_pointer s.leaf) (slots (shape_of sc.names value.ty))) (operand_in sc value))
operation_in sc to (Phi ty incoming) = Action.Stuck
operation_in sc to (Load flags ty address alignment) =
    Action.Load to (alignment_in sc.names alignment ty) (scalar_in sc address) (slots (shape_of sc.names ty))
operation_in sc to (Store flags value address alignment) =
    Action.Store (alignment_in sc.names alignment value.ty) (scalar_in sc address) (zip (slots (shape_of sc.names value.ty)) (operand_in sc value))
operation_in sc to (Alloca ty count alignment) =
    Action.Allocate to (size (shape_of sc.names ty)) (alignment_in sc.names alignment ty) (option_map_or (scalar_in sc) count (Origin.Known (scalar.Int 1)))
operation_in sc to (GetElementPtr flags source base indices) =
    Action.Displace to (has_flag flags Inbounds) (scalar_in sc base) (terms_of (shape_of sc.names source) (map (index_in sc) indices))
operation_in sc to (Call signature callee arguments) =
    Action.Call to (signature_in sc.names signature) (scalar_of sc ptr callee) (map (λ a. shape_of sc.names a.ty) arguments) (flat_map (operand_in sc) arguments)
operation_in sc to (ExtractValue aggregate indices) = Action.Gather to (extracted sc aggregate indices)
operation_in sc to (InsertValue aggregate new indices) = Action.Gather to (inserted sc aggregate new indices)

-- the action of an instruction
abbrev pub instruction_in : FunctionScope → Instruction → Action
instruction_in sc i = operation_in sc (place_in sc i.result) i.operation

-- what a phi gets from a block
abbrev pub incoming_from : FunctionScope → LocalName → Tree → List Incoming → List Origin
incoming_from sc from ty incoming = option_map_or (λ x. value_in sc ty x.value) (find (λ x. same_local x.block from) incoming) []

-- one behind the other, from that place on
abbrev pub moves_to : ℕ → List Origin → List Move
moves_to to [] = []
moves_to to (o ∷ os) = record { to = to; from = o } ∷ moves_to (to + 1) os

-- what the leaves of a phi get from a block
abbrev pub phi_moves : FunctionScope → LocalName → Option LocalName → Operation → List Move
phi_moves sc from result (Phi ty incoming) = moves_to (place_in sc result) (incoming_from sc from ty incoming)
phi_moves sc from result _ = []

-- an instruction is a phi
abbrev pub is_phi : Operation → Bool
is_phi (Phi ty incoming) = true
is_phi _ = false

-- the phis stand first in their block
abbrev pub phis : List Instruction → List Instruction
phis [] = []
phis (i ∷ is) = if is_phi i.operation then i ∷ phis is else []

-- the way from a block into a block
abbrev pub edge_into : FunctionScope → LocalName → ℕ → Option Block → Edge
edge_into sc from number None = record { block = number; position = 0; moves = [] }
edge_into sc from number (Some b) =
    record { block = number; position = length (phis b.instructions); moves = flat_map (λ i. phi_moves sc from i.result i.operation) (phis b.instructions) }

-- the way from a block to another
abbrev pub edge_in : FunctionScope → LocalName → LocalName → Edge
edge_in sc from to = edge_into sc from (block_in sc to) (find (λ b. same_local b.name to) sc.blocks)

-- a case, with its number
abbrev pub case_in : FunctionScope → LocalName → Case → ℕ × Edge
case_in sc from c = (number_of (one_leaf (constant_value sc.names c.ty c.value)), edge_in sc from c.target)

-- the action of the end of a block
abbrev pub ending_in : FunctionScope → LocalName → Ending → Action
ending_in sc from ReturnVoid = Action.Return []
ending_in sc from (Return value) = Action.Return (operand_in sc value)
ending_in sc from (Jump target) = Action.Jump (edge_in sc from target)
ending_in sc from (Branch condition then_to else_to) = Action.Branch (scalar_in sc condition) (edge_in sc from then_to) (edge_in sc from else_to)
ending_in sc from (Switch value otherwise cases) = Action.Switch (scalar_in sc value) (edge_in sc from otherwise) (map (case_in sc from) cases)
ending_in sc from Unreachable = Action.Unreachable
