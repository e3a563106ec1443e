-- For `blocks_of`: the rows of instructions, behind their opcodes.
use Rattle.std.specs.Prelude.{false, List, [], ◌∷◌, ◌++◌, Option}
use Rattle.ir_terminals.specs.PhraseRows.Row.{Row, PhraseShape, fail, chain, mapped, keep_second, keep_first, pair, labelled}
use Rattle.ir_lexer.specs.Ahead.{Located}
use Rattle.ir_tables.specs.declared.opcode.Opcode.{Opcode}
use Rattle.ir_tables.specs.declared.opcode.Opcode.TheVariants as op
use Rattle.ir_terminals.specs.declared.limits.Limits.{Limits}
use Rattle.ir_terminals.specs.declared.terminal.Terminal.TheVariants as terminal
use Rattle.ir_terminals.specs.declared.values.Integer.{Integer}
use Rattle.ir_terminals.specs.declared.values.Local.{Local}
use Rattle.ir_terminals.specs.Terminal.{code, flag_class, predicate_class}
use Rattle.ir_terminals.specs.Tokens.{word, integer_row, local_row, predicate_row}
use Rattle.ir_phrases.specs.Constants.Flags.{flags_row}
use Rattle.ir_phrases.specs.Constants.Tree.{TypeTree, ValueTree, TypedValueTree}
use Rattle.ir_phrases.specs.Constants.Types.{type_shape, type_row}
use Rattle.ir_phrases.specs.Constants.Values.{value_row, typed_value_row}
use Rattle.ir_phrases.specs.Instructions.Tree.{IncomingTree, OperationTree, Binary, Compare, Cast, Select, Freeze, Phi, Load, Store, Alloca, GetElementPtr, ExtractValue, InsertValue}
use Rattle.ir_phrases.specs.Instructions.Dropped.{attachments_row, comma_shape, commas_shape, parameter_attribute_shape, function_attribute_shape}
use Rattle.ir_phrases.specs.Instructions.Tails.{alignment_row, count_row, listed_row}
use Rattle.ir_phrases.specs.Instructions.Calls.{call_core}

-- a comma, what follows it, and further commas
abbrev pub tail_shape : PhraseShape
tail_shape = record { first = comma_shape.first; more = comma_shape.first; empty = false }

-- , VALUE, by its parts
unfoldable pub next_value_core : Limits → Row Located ValueTree
next_value_core limits = keep_second (word terminal.Comma) (value_row limits)

-- , VALUE
abbrev pub next_value_row : Limits → Row Located ValueTree
next_value_row limits = labelled comma_shape (next_value_core limits)

-- , TYPE VALUE, by its parts
unfoldable pub next_typed_value_core : Limits → Row Located TypedValueTree
next_typed_value_core limits = keep_second (word terminal.Comma) (typed_value_row limits)

-- , TYPE VALUE
abbrev pub next_typed_value_row : Limits → Row Located TypedValueTree
next_typed_value_row limits = labelled comma_shape (next_typed_value_core limits)

-- how two operands of one type begin and go on
abbrev pub operands_shape : PhraseShape
operands_shape = record { first = type_shape.first; more = comma_shape.first; empty = false }

-- TYPE VALUE , VALUE (, MD)*, by its parts
unfoldable pub operands_core : Limits → Row Located (TypedValueTree × ValueTree)
operands_core limits = pair (typed_value_row limits) (keep_first (next_value_row limits) attachments_row)

-- TYPE VALUE , VALUE (, MD)*
abbrev pub operands_row : Limits → Row Located (TypedValueTree × ValueTree)
operands_row limits = labelled operands_shape (operands_core limits)

-- how the type to which a cast goes begins and goes on
abbrev pub cast_type_shape : PhraseShape
cast_type_shape = record { first = code terminal.To ∷ []; more = comma_shape.first; empty = false }

-- to TYPE (, MD)*, by its parts
unfoldable pub cast_type_core : Limits → Row Located TypeTree
cast_type_core limits = keep_second (word terminal.To) (keep_first (type_row limits) attachments_row)

-- to TYPE (, MD)*
abbrev pub cast_type_row : Limits → Row Located TypeTree
cast_type_row limits = labelled cast_type_shape (cast_type_core limits)

-- , TYPE VALUE , TYPE VALUE (, MD)*, by its parts
unfoldable pub arms_core : Limits → Row Located (TypedValueTree × TypedValueTree)
arms_core limits = pair (next_typed_value_row limits) (keep_first (next_typed_value_row limits) attachments_row)

-- , TYPE VALUE , TYPE VALUE (, MD)*
abbrev pub arms_row : Limits → Row Located (TypedValueTree × TypedValueTree)
arms_row limits = labelled tail_shape (arms_core limits)

-- , TYPE VALUE (, align INT)? (, MD)*, by its parts
unfoldable pub address_core : Limits → Row Located (TypedValueTree × Option Integer)
address_core limits = pair (next_typed_value_row limits) alignment_row

-- , TYPE VALUE (, align INT)? (, MD)*
abbrev pub address_row : Limits → Row Located (TypedValueTree × Option Integer)
address_row limits = labelled tail_shape (address_core limits)

-- , LOCAL ], by its parts
unfoldable pub from_block_core : Row Located Local
from_block_core = keep_second (word terminal.Comma) (keep_first local_row (word terminal.CloseBracket))

-- , LOCAL ]
abbrev pub from_block_row : Row Located Local
from_block_row = labelled comma_shape from_block_core

-- how the value of a phi begins
abbrev pub incoming_shape : PhraseShape
incoming_shape = record { first = code terminal.OpenBracket ∷ []; more = []; empty = false }

-- [ VALUE , LOCAL ], by its parts
unfoldable pub incoming_core : Limits → Row Located IncomingTree
incoming_core limits = keep_second (word terminal.OpenBracket) (pair (value_row limits) from_block_row)

-- [ VALUE , LOCAL ]
abbrev pub incoming_row : Limits → Row Located IncomingTree
incoming_row limits = labelled incoming_shape (incoming_core limits)

-- , TYPE VALUE (, TYPE VALUE)* (, MD)*, by its parts
unfoldable pub operand_list_core : Limits → Row Located (List TypedValueTree)
operand_list_core limits = chain (next_typed_value_row limits) commas_shape (λ t. listed_row (typed_value_row limits) (t ∷ []))

-- , TYPE VALUE (, TYPE VALUE)* (, MD)*
abbrev pub operand_list_row : Limits → Row Located (List TypedValueTree)
operand_list_row limits = labelled tail_shape (operand_list_core limits)

-- , INT (, INT)* (, MD)*, by its parts
unfoldable pub indices_core : Row Located (List Integer)
indices_core = keep_second (word terminal.Comma) (chain integer_row commas_shape (λ i. listed_row integer_row (i ∷ [])))

-- , INT (, INT)* (, MD)*
abbrev pub indices_row : Row Located (List Integer)
indices_row = labelled tail_shape indices_core

-- what may follow an opcode, and what may go on with a whole instruction
abbrev pub operation_shape : PhraseShape
operation_shape = record {
  first = flag_class ∷ predicate_class ∷ code terminal.CallingConvention ∷ parameter_attribute_shape.first ++ type_shape.first;
  more = code terminal.Comma ∷ function_attribute_shape.first ++ function_attribute_shape.more;
  empty = false;
}

-- FLAG* TYPE VALUE , VALUE (, MD)*, by its parts
unfoldable pub binary_core : Opcode → Limits → Row Located OperationTree
binary_core opcode limits = mapped (λ (flags, (left, right)). Binary opcode flags left right) (pair (flags_row opcode) (operands_row limits))

-- FLAG* TYPE VALUE , VALUE (, MD)*
abbrev pub binary_row : Opcode → Limits → Row Located OperationTree
binary_row opcode limits = labelled operation_shape (binary_core opcode limits)

-- FLAG* PREDICATE TYPE VALUE , VALUE (, MD)*, by its parts
unfoldable pub compare_core : Limits → Row Located OperationTree
compare_core limits =
    mapped
    (λ (flags, (predicate, (left, right))). Compare flags predicate left right)
    (pair (flags_row op.ICmp) (pair predicate_row (operands_row limits)))

-- FLAG* PREDICATE TYPE VALUE , VALUE (, MD)*
abbrev pub compare_row : Limits → Row Located OperationTree
compare_row limits = labelled operation_shape (compare_core limits)

-- FLAG* TYPE VALUE to TYPE (, MD)*, by its parts
unfoldable pub cast_core : Opcode → Limits → Row Located OperationTree
cast_core opcode limits = mapped (λ (flags, (value, to)). Cast opcode flags value to) (pair (flags_row opcode) (pair (typed_value_row limits) (cast_type_row limits)))

-- FLAG* TYPE VALUE to TYPE (, MD)*
abbrev pub cast_row : Opcode → Limits → Row Located OperationTree
cast_row opcode limits = labelled operation_shape (cast_core opcode limits)

-- TYPE VALUE , TYPE VALUE , TYPE VALUE (, MD)*, by its parts
unfoldable pub select_core : Limits → Row Located OperationTree
select_core limits = mapped (λ (condition, (chosen, other)). Select condition chosen other) (pair (typed_value_row limits) (arms_row limits))

-- TYPE VALUE , TYPE VALUE , TYPE VALUE (, MD)*
abbrev pub select_row : Limits → Row Located OperationTree
select_row limits = labelled operation_shape (select_core limits)

-- TYPE VALUE (, MD)*, by its parts
unfoldable pub freeze_core : Limits → Row Located OperationTree
freeze_core limits = mapped Freeze (keep_first (typed_value_row limits) attachments_row)

-- TYPE VALUE (, MD)*
abbrev pub freeze_row : Limits → Row Located OperationTree
freeze_row limits = labelled operation_shape (freeze_core limits)

-- TYPE [ VALUE , LOCAL ] (, [ VALUE , LOCAL ])* (, MD)*, by its parts
unfoldable pub phi_core : Limits → Row Located OperationTree
phi_core limits = mapped (λ v. Phi v.0 v.1) (pair (type_row limits) (chain (incoming_row limits) commas_shape (λ i. listed_row (incoming_row limits) (i ∷ []))))

-- TYPE [ VALUE , LOCAL ] (, [ VALUE , LOCAL ])* (, MD)*
abbrev pub phi_row : Limits → Row Located OperationTree
phi_row limits = labelled operation_shape (phi_core limits)

-- FLAG* TYPE , TYPE VALUE (, align INT)? (, MD)*, by its parts
unfoldable pub load_core : Limits → Row Located OperationTree
load_core limits =
    mapped
    (λ (flags, (ty, (address, alignment))). Load flags ty address alignment)
    (pair (flags_row op.Load) (pair (type_row limits) (address_row limits)))

-- FLAG* TYPE , TYPE VALUE (, align INT)? (, MD)*
abbrev pub load_row : Limits → Row Located OperationTree
load_row limits = labelled operation_shape (load_core limits)

-- FLAG* TYPE VALUE , TYPE VALUE (, align INT)? (, MD)*, by its parts
unfoldable pub store_core : Limits → Row Located OperationTree
store_core limits =
    mapped
    (λ (flags, (value, (address, alignment))). Store flags value address alignment)
    (pair (flags_row op.Store) (pair (typed_value_row limits) (address_row limits)))

-- FLAG* TYPE VALUE , TYPE VALUE (, align INT)? (, MD)*
abbrev pub store_row : Limits → Row Located OperationTree
store_row limits = labelled operation_shape (store_core limits)

-- TYPE (, TYPE VALUE)? (, align INT)? (, MD)*, by its parts
unfoldable pub alloca_core : Limits → Row Located OperationTree
alloca_core limits = mapped (λ (ty, (count, alignment)). Alloca ty count alignment) (pair (type_row limits) (count_row limits))

-- TYPE (, TYPE VALUE)? (, align INT)? (, MD)*
abbrev pub alloca_row : Limits → Row Located OperationTree
alloca_row limits = labelled operation_shape (alloca_core limits)

-- FLAG* TYPE , TYPE VALUE (, TYPE VALUE)* (, MD)*, by its parts
unfoldable pub element_address_core : Limits → Row Located OperationTree
element_address_core limits =
    mapped
    (λ (flags, (source, operands)). GetElementPtr flags source operands)
    (pair (flags_row op.GetElementPtr) (pair (type_row limits) (operand_list_row limits)))

-- FLAG* TYPE , TYPE VALUE (, TYPE VALUE)* (, MD)*
abbrev pub element_address_row : Limits → Row Located OperationTree
element_address_row limits = labelled operation_shape (element_address_core limits)

-- TYPE VALUE (, INT)+ (, MD)*, by its parts
unfoldable pub extract_core : Limits → Row Located OperationTree
extract_core limits = mapped (λ v. ExtractValue v.0 v.1) (pair (typed_value_row limits) indices_row)

-- TYPE VALUE (, INT)+ (, MD)*
abbrev pub extract_row : Limits → Row Located OperationTree
extract_row limits = labelled operation_shape (extract_core limits)

-- TYPE VALUE , TYPE VALUE (, INT)+ (, MD)*, by its parts
unfoldable pub insert_core : Limits → Row Located OperationTree
insert_core limits = mapped (λ (whole, (part, indices)). InsertValue whole part indices) (pair (typed_value_row limits) (pair (next_typed_value_row limits) indices_row))

-- TYPE VALUE , TYPE VALUE (, INT)+ (, MD)*
abbrev pub insert_row : Limits → Row Located OperationTree
insert_row limits = labelled operation_shape (insert_core limits)

-- a call, as the other operations
abbrev pub call_operation_row : Limits → Row Located OperationTree
call_operation_row limits = labelled operation_shape (call_core limits)

-- what follows an opcode that does not end a block
unfoldable pub operation_core : Limits → Opcode → Row Located OperationTree
operation_core limits op.ICmp = compare_row limits
operation_core limits op.Trunc = cast_row op.Trunc limits
operation_core limits op.ZExt = cast_row op.ZExt limits
operation_core limits op.SExt = cast_row op.SExt limits
operation_core limits op.PtrToInt = cast_row op.PtrToInt limits
operation_core limits op.IntToPtr = cast_row op.IntToPtr limits
operation_core limits op.Select = select_row limits
operation_core limits op.Freeze = freeze_row limits
operation_core limits op.Phi = phi_row limits
operation_core limits op.Load = load_row limits
operation_core limits op.Store = store_row limits
operation_core limits op.Alloca = alloca_row limits
operation_core limits op.GetElementPtr = element_address_row limits
operation_core limits op.Call = call_operation_row limits
operation_core limits op.ExtractValue = extract_row limits
operation_core limits op.InsertValue = insert_row limits
operation_core limits op.Ret = fail operation_shape
operation_core limits op.Br = fail operation_shape
operation_core limits op.Switch = fail operation_shape
operation_core limits op.Unreachable = fail operation_shape
operation_core limits opcode = binary_row opcode limits

-- what stands behind an opcode
abbrev pub operation_behind : Limits → Opcode → Row Located OperationTree
operation_behind limits opcode = labelled operation_shape (operation_core limits opcode)
