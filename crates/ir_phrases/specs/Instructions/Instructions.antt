-- For `blocks_of`: the rows of instructions.
use Rattle.std.specs.Prelude.{ℕ, false, List, [], ◌∷◌, Some, None}
use Rattle.ir_terminals.specs.PhraseRows.Row.{Row, PhraseShape, one, chain, mapped, keep_second, keep_first, pair, alt, many, labelled}
use Rattle.ir_lexer.specs.Ahead.{Located}
use Rattle.ir_tables.specs.declared.opcode.Opcode.TheVariants as op
use Rattle.ir_terminals.specs.declared.limits.Limits.{Limits}
use Rattle.ir_terminals.specs.declared.terminal.Terminal.TheVariants as terminal
use Rattle.ir_terminals.specs.Role.{class}
use Rattle.ir_terminals.specs.Terminal.{code}
use Rattle.ir_terminals.specs.Values.{opcode_of}
use Rattle.ir_terminals.specs.Tokens.{word, local_row}
use Rattle.ir_phrases.specs.Instructions.Tree.{OperationTree, InstructionTree}
use Rattle.ir_phrases.specs.Instructions.Operations.{operation_shape, operation_behind}
use Rattle.ir_phrases.specs.Instructions.Calls.{call_row}

-- the opcodes of instructions that have a result, or may have one
abbrev pub result_classes : List ℕ
result_classes =
    code (terminal.Opcode op.Add) ∷ code (terminal.Opcode op.Sub) ∷ code (terminal.Opcode op.Mul) ∷ code (terminal.Opcode op.UDiv)
    ∷ code (terminal.Opcode op.SDiv) ∷ code (terminal.Opcode op.URem) ∷ code (terminal.Opcode op.SRem) ∷ code (terminal.Opcode op.Shl)
    ∷ code (terminal.Opcode op.LShr) ∷ code (terminal.Opcode op.AShr) ∷ code (terminal.Opcode op.And) ∷ code (terminal.Opcode op.Or)
    ∷ code (terminal.Opcode op.Xor) ∷ code (terminal.Opcode op.ICmp) ∷ code (terminal.Opcode op.Trunc) ∷ code (terminal.Opcode op.ZExt)
    ∷ code (terminal.Opcode op.SExt) ∷ code (terminal.Opcode op.PtrToInt) ∷ code (terminal.Opcode op.IntToPtr) ∷ code (terminal.Opcode op.Select)
    ∷ code (terminal.Opcode op.Freeze) ∷ code (terminal.Opcode op.Phi) ∷ code (terminal.Opcode op.Load) ∷ code (terminal.Opcode op.Alloca)
    ∷ code (terminal.Opcode op.GetElementPtr) ∷ code (terminal.Opcode op.Call) ∷ code (terminal.Opcode op.ExtractValue) ∷ code (terminal.Opcode op.InsertValue) ∷ []

-- and `store`, which has none
abbrev pub operation_classes : List ℕ
operation_classes = code (terminal.Opcode op.Store) ∷ result_classes

-- (tail|musttail|notail) call ..
abbrev pub marked_call_row : Limits → Row Located OperationTree
marked_call_row limits = keep_second (word terminal.TailMark) (keep_second (word (terminal.Opcode op.Call)) (call_row limits))

-- how operations begin and go on, whose opcodes have these classes
abbrev pub operation_over_shape : List ℕ → PhraseShape
operation_over_shape classes = record { first = code terminal.TailMark ∷ classes; more = operation_shape.more; empty = false }

-- an instruction with one of these opcodes, without what its result is called
unfoldable pub operation_over_core : List ℕ → Limits → Row Located OperationTree
operation_over_core classes limits = alt class (marked_call_row limits) (chain (one class classes opcode_of) operation_shape (operation_behind limits))

-- an operation whose opcode has one of these classes
abbrev pub operation_over : List ℕ → Limits → Row Located OperationTree
operation_over classes limits = labelled (operation_over_shape classes) (operation_over_core classes limits)

-- LOCAL = and an instruction that has a result
abbrev pub assigned_row : Limits → Row Located InstructionTree
assigned_row limits =
    mapped
    (λ v. record { result = Some v.0; operation = v.1 })
    (pair (keep_first local_row (word terminal.Equals)) (operation_over result_classes limits))

-- an instruction whose result, where it has one, is not called by a name
abbrev pub bare_row : Limits → Row Located InstructionTree
bare_row limits = mapped (λ o. record { result = None; operation = o }) (operation_over operation_classes limits)

-- how instructions begin and go on
abbrev pub instruction_shape : PhraseShape
instruction_shape = record { first = code terminal.Local ∷ code terminal.TailMark ∷ operation_classes; more = operation_shape.more; empty = false }

-- INST
unfoldable pub instruction_core : Limits → Row Located InstructionTree
instruction_core limits = alt class (assigned_row limits) (bare_row limits)

-- an instruction, with the result that it defines or without one
abbrev pub instruction_row : Limits → Row Located InstructionTree
instruction_row limits = labelled instruction_shape (instruction_core limits)

-- INST*
abbrev pub instructions_row : Limits → Row Located (List InstructionTree)
instructions_row limits = many class (instruction_row limits)
