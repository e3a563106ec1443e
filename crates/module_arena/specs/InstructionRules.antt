-- For `Checked::seal`: what is asked of instructions and of the ends of blocks.
use Rattle.std.specs.Prelude.{ℕ, Bool, true, false, not, ◌&&◌, ◌||◌, ◌==◌, List, ◌++◌, map, count_by, Option, Some, None}
use Rattle.std.specs.List.{list_all}
use Rattle.type_table.specs.Tree.{Tree, ptr, Structs}
use Rattle.module_arena.specs.Module.{LocalName, Value, Operand, Incoming, Operation, Instruction, Module}
use Rattle.module_arena.specs.Module.Constant.{Address}
use Rattle.module_arena.specs.Module.Value.{Local, Known}
use Rattle.module_arena.specs.Module.Operation.{Phi, Load, Store, Alloca, GetElementPtr, Call}
use Rattle.module_arena.specs.Same.{same_local, same_value}
use Rattle.module_arena.specs.TypeTests.{lies_in_memory, is_passable}
use Rattle.module_arena.specs.Operations.{result_type, operands, callee}
use Rattle.module_arena.specs.Flow.{Flow, predecessors}
use Rattle.module_arena.specs.EntryRules.{takes_no_intrinsic, constant_types_suit, return_suits, alignment_suits}

-- ---- intrinsics

-- a constant takes the address of no intrinsic
abbrev pub value_takes_no_intrinsic : Module → Tree → Value → Bool
value_takes_no_intrinsic m t (Local name) = true
value_takes_no_intrinsic m t (Known c) = takes_no_intrinsic m t c

-- the address of an intrinsic is taken by no operand; a callee may be the intrinsic itself
abbrev pub callee_takes_no_intrinsic : Module → Option Value → Bool
callee_takes_no_intrinsic m (Some (Known (Address name))) = true
callee_takes_no_intrinsic m (Some value) = value_takes_no_intrinsic m ptr value
callee_takes_no_intrinsic m None = true

-- nor does any operand
abbrev pub operands_take_no_intrinsic : Module → List Operand → Bool
operands_take_no_intrinsic m os = list_all (λ o. value_takes_no_intrinsic m o.ty o.value) os

-- ---- types

-- the types that a constant writes
abbrev pub value_types_suit : Structs → Tree → Value → Bool
value_types_suit structs t (Local name) = true
value_types_suit structs t (Known c) = constant_types_suit structs t c

-- operands are handed on, and the types that they write suit
abbrev pub operands_suit : Structs → List Operand → Bool
operands_suit structs os = list_all (λ o. is_passable structs o.ty && value_types_suit structs o.ty o.value) os

-- the types that a callee writes
abbrev pub callee_types_suit : Structs → Option Value → Bool
callee_types_suit structs None = true
callee_types_suit structs (Some value) = value_types_suit structs ptr value

-- what a type is asked for that stands neither at an operand nor at the result
abbrev pub other_types_suit : Structs → Operation → Bool
other_types_suit structs (Alloca ty count alignment) = lies_in_memory structs ty
other_types_suit structs (GetElementPtr flags source base indices) = lies_in_memory structs source
other_types_suit structs (Call signature value arguments) = return_suits structs signature.returns && list_all (is_passable structs) signature.parameters
other_types_suit structs _ = true

-- a result that has a type
abbrev pub result_suits : Structs → Option Tree → Bool
result_suits structs None = true
result_suits structs (Some t) = is_passable structs t

-- the types of operands, callee, result and all others
abbrev pub operation_types_suit : Structs → Operation → Bool
operation_types_suit structs o =
    operands_suit structs (operands o)
    && (callee_types_suit structs (callee o) && (result_suits structs (result_type structs o) && other_types_suit structs o))

-- the alignment that an instruction states
abbrev pub operation_alignment_suits : Operation → Bool
operation_alignment_suits (Load flags ty address alignment) = alignment_suits alignment
operation_alignment_suits (Store flags value address alignment) = alignment_suits alignment
operation_alignment_suits (Alloca ty count alignment) = alignment_suits alignment
operation_alignment_suits _ = true

-- ---- phis

-- the operation is a phi
abbrev pub is_phi_operation : Operation → Bool
is_phi_operation (Phi ty incoming) = true
is_phi_operation _ = false

-- the instruction is a phi
abbrev pub is_phi : Instruction → Bool
is_phi i = is_phi_operation i.operation

-- how often the name is in the list
abbrev pub count_local : List LocalName → LocalName → ℕ
count_local names name = count_by (λ n. same_local n name) names

-- the same names, each as often
abbrev pub same_names : List LocalName → List LocalName → Bool
same_names as_ bs = list_all (λ name. count_local as_ name == count_local bs name) (as_ ++ bs)

-- entries for one block are equal
abbrev pub entries_agree : List Incoming → Bool
entries_agree incoming = list_all (λ a. list_all (λ b. not (same_local a.block b.block) || same_value a.value b.value) incoming) incoming

-- behind phis alone, one entry for each incoming edge
abbrev pub phi_suits : Flow → LocalName → List Instruction → List Incoming → Bool
phi_suits flow block before incoming =
    list_all is_phi before && (same_names (map (λ i. i.block) incoming) (predecessors flow block) && entries_agree incoming)
