-- For `put_dotted` and `put_ending`, and how the code reads: the parts of operations, by the ids of an arena and of a
-- function in it.
use Rattle.std.specs.Prelude.{ℕ, ◌<◌, true, List, map, length}
use Rattle.ir_lexer.specs.Pieces.{TextPiece, Nothing}
use Rattle.ir_tables.specs.declared.opcode.Opcode.{Opcode}
use Rattle.ir_tables.specs.declared.predicate.Predicate.{Predicate}
use Rattle.type_table.specs.Types.{Types, trees, tree}
use Rattle.module_arena.specs.declared.entry.Function.{Function}
use Rattle.module_arena.specs.declared.instruction.Inst.{Inst}
use Rattle.module_arena.specs.declared.instruction.Value as the_value
use Rattle.module_arena.specs.declared.instruction.Operand as the_operand
use Rattle.module_arena.specs.declared.instruction.Incoming as the_incoming
use Rattle.module_arena.specs.declared.instruction.Choice as the_choice
use Rattle.module_arena.specs.declared.instruction.Insertion as the_insertion
use Rattle.module_arena.specs.Known.{HasValue, HasOperand}
use Rattle.module_arena.specs.Lists.{Lists, value_names, function_blocks}
use Rattle.module_arena.specs.Module as m
use Rattle.module_arena.specs.Module.{Incoming, Signature, Operation}
use Rattle.module_arena.specs.declared.instruction.Signature as the_signature
use Rattle.module_arena.specs.View.{type_at, constants_of, incoming_view, signature_view, inst_view}
use Rattle.canonical.specs.Phrase.{Phrase, comma, ◌␣◌, ◌⌢◌, listed}
use Rattle.canonical.specs.Types.{type_phrase}
use Rattle.canonical.specs.Constants.{value_phrase, operand}
use Rattle.canonical.specs.Operations.{dotted}
use Rattle.ir_printer.specs.Instructions.Named.{values_in, labels_in, value_of, operand_of}

module _ (a : Lists) (f : Function) where
  -- the value is there
  abbrev pub HasThisValue : the_value.Value → Type 0
  HasThisValue value = HasValue (length a.constants) (length (value_names f)) value

  -- the operand, its value and its type, are there
  abbrev pub HasThis : the_operand.Operand → Type 0
  HasThis part = HasOperand (length a.table.types) (length a.constants) (length (value_names f)) part

  -- a value of a phi and its block are there
  abbrev pub HasIncoming : the_incoming.Incoming → Type 0
  HasIncoming i = HasThisValue i.value × (i.block < length (function_blocks f))

  -- a value of a phi, and its block
  abbrev pub incoming_of : the_incoming.Incoming → Incoming
  incoming_of i = incoming_view (trees a.table) (constants_of a) (values_in f) (labels_in f) i

  -- what an instruction does
  abbrev pub operation_of : Inst → Operation
  operation_of i = (inst_view (trees a.table) (constants_of a) (values_in f) (labels_in f) i).operation

  -- an operation on two operands of one type
  abbrev pub binary_of : Opcode → (flags : ℕ) → the_operand.Operand → the_value.Value → Operation
  binary_of code flags left right = m.BinaryOperation code flags (operand_of a f left) (value_of a f right)

  -- a comparison
  abbrev pub comparison_of : (flags : ℕ) → Predicate → the_operand.Operand → the_value.Value → Operation
  comparison_of flags predicate left right = m.Compare flags predicate (operand_of a f left) (value_of a f right)

  -- a select
  abbrev pub select_of : the_choice.Choice → Operation
  select_of c = m.Select (operand_of a f c.condition) (operand_of a f c.first) (operand_of a f c.second)

  -- the address of an element of a type, by its indices
  abbrev pub element_address_of : (flags source : ℕ) → the_operand.Operand → List the_operand.Operand → Operation
  element_address_of flags source base indices = m.GetElementPtr flags (tree a.table source) (operand_of a f base) (map (operand_of a f) indices)

  -- a value that is put into an aggregate
  abbrev pub insertion_of : the_insertion.Insertion → Operation
  insertion_of i = m.InsertValue (operand_of a f i.aggregate) (operand_of a f i.part) i.indices

  -- an operand, and a value of its type
  abbrev pub pair : the_operand.Operand → the_value.Value → Phrase
  pair left right = operand (operand_of a f left) ⌢ comma ␣ value_phrase (tree a.table left.ty) (value_of a f right)

-- types with a comma behind each, and three dots
abbrev pub dotted_types : Types → List ℕ → List TextPiece
dotted_types t parts = listed (dotted (map type_phrase (map (type_at (trees t)) parts)) true) Nothing

-- a function type
abbrev pub signature_of : Lists → the_signature.Signature → Signature
signature_of a s = signature_view (trees a.table) s
