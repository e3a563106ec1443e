-- For `Checked::seal`: the forms that instructions and constants have by their phrases: opcodes, flags, and counts of parts.
use Rattle.std.specs.Prelude.{ℕ, Bool, true, false, not, ◌&&◌, ◌||◌, nat_lt, List, [], ◌∷◌, Option, Some, None, is_some}
use Rattle.std.specs.List.{list_all}
use Rattle.ir_tables.specs.declared.opcode.Opcode.{Opcode}
use Rattle.ir_tables.specs.declared.opcode.Opcode.TheVariants as op
use Rattle.ir_tables.specs.Flag.{flags}
use Rattle.ir_tables.specs.Flags.{has_flag}
pub use Rattle.ir_tables.specs.MayHave.{may_have}
pub use Rattle.ir_tables.specs.OpcodeGroups.{is_binary, is_cast, is_constant_binary, is_constant_cast}
use Rattle.module_arena.specs.declared.arena.TheConstants.{INDEX_LIMIT}
use Rattle.module_arena.specs.Module.{Constant, Constants, Operation, Instruction}
use Rattle.module_arena.specs.Module.Constant.{ElementAddress, Cast, Binary}
use Rattle.module_arena.specs.Module.Constants.{no_constants, more_constants}
use Rattle.module_arena.specs.Module.Operation.{BinaryOperation, Compare, Convert, Phi, Load, Store, GetElementPtr, Call, ExtractValue, InsertValue}
use Rattle.module_arena.specs.TypeTests.{is_void}

-- a set of flags that the opcode may have
abbrev pub are_flags_of : Opcode → ℕ → Bool
are_flags_of opcode set = nat_lt set 512 && list_all (λ f. not (has_flag set f) || may_have opcode f) flags

-- at least one item
abbrev pub is_not_empty : {A : Type 0} → List A → Bool
is_not_empty [] = false
is_not_empty (x ∷ xs) = true

-- indices are numbers of 32 bits
abbrev pub are_indices : List ℕ → Bool
are_indices indices = is_not_empty indices && list_all (λ k. nat_lt k INDEX_LIMIT) indices

-- an alignment that is stated is below 2^32
abbrev pub is_small_alignment : Option ℕ → Bool
is_small_alignment None = true
is_small_alignment (Some n) = nat_lt n INDEX_LIMIT

-- the opcode, the flags and the counts of parts suit the phrase
abbrev pub is_operation_of_phrase : Operation → Bool
is_operation_of_phrase (BinaryOperation opcode set left right) = is_binary opcode && are_flags_of opcode set
is_operation_of_phrase (Compare set predicate left right) = are_flags_of op.ICmp set
is_operation_of_phrase (Convert opcode set value to) = is_cast opcode && are_flags_of opcode set
is_operation_of_phrase (Phi ty incoming) = is_not_empty incoming
is_operation_of_phrase (Load set ty address alignment) = are_flags_of op.Load set && is_small_alignment alignment
is_operation_of_phrase (Store set value address alignment) = are_flags_of op.Store set && is_small_alignment alignment
is_operation_of_phrase (Operation.Alloca ty count alignment) = is_small_alignment alignment
is_operation_of_phrase (GetElementPtr set source base indices) = are_flags_of op.GetElementPtr set
is_operation_of_phrase (ExtractValue aggregate indices) = are_indices indices
is_operation_of_phrase (InsertValue aggregate part indices) = are_indices indices
is_operation_of_phrase _ = true

-- each result has a name or number: a store has none, and a void call has one where one is written
abbrev pub has_result_of_phrase : Operation → Bool → Bool
has_result_of_phrase (Store set value address alignment) named = not named
has_result_of_phrase (Call signature callee arguments) named = named || is_void signature.returns
has_result_of_phrase _ named = named

-- and a result is there exactly where the phrase has one
abbrev pub is_instruction_of_phrase : Instruction → Bool
is_instruction_of_phrase i = is_operation_of_phrase i.operation && has_result_of_phrase i.operation (is_some i.result)

-- at least one constant
abbrev pub has_constants : Constants → Bool
has_constants no_constants = false
has_constants (more_constants t c cs) = true

-- of the constant itself; its parts are judged apart
abbrev pub is_constant_of_phrase : Constant → Bool
is_constant_of_phrase (ElementAddress set source operands) = are_flags_of op.GetElementPtr set && has_constants operands
is_constant_of_phrase (Cast opcode from value to) = is_constant_cast opcode
is_constant_of_phrase (Binary opcode set a left b right) = is_constant_binary opcode && are_flags_of opcode set
is_constant_of_phrase _ = true
