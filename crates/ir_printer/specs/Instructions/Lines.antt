-- For `put_instruction` and `put_ending`: the instructions and ends of a function, by the ids of an arena.
use Rattle.std.specs.Prelude.{ℕ, ◌<◌, List, [], ◌++◌, length, codes, Option, Some, None}
use Rattle.ir_lexer.specs.Pieces.{TextPiece, Space}
use Rattle.type_table.specs.Types.{trees}
use Rattle.module_arena.specs.declared.entry.Function.{Function}
use Rattle.module_arena.specs.declared.instruction.Inst.{Inst}
use Rattle.module_arena.specs.declared.instruction.Case as the_case
use Rattle.module_arena.specs.declared.instruction.Ending as the_ending
use Rattle.module_arena.specs.Lists.{Lists, function_blocks}
use Rattle.module_arena.specs.Module.{LocalName, Instruction, Case, Ending}
use Rattle.module_arena.specs.View.{constants_of, inst_view, case_view, ending_view, value_name}
use Rattle.canonical.specs.Names.{local}
use Rattle.canonical.specs.Phrase.{mark}
use Rattle.ir_printer.specs.Instructions.Named.{values_in, labels_in}

module _ (a : Lists) (f : Function) where
  -- an instruction, with its result
  abbrev pub instruction_of : Inst → Instruction
  instruction_of i = inst_view (trees a.table) (constants_of a) (values_in f) (labels_in f) i

  -- the end of a block
  abbrev pub ending_of : the_ending.Ending → Ending
  ending_of e = ending_view (trees a.table) (constants_of a) (values_in f) (labels_in f) e

  -- a case of a switch, and where it goes
  abbrev pub case_of : the_case.Case → Case
  case_of c = case_view (trees a.table) (constants_of a) (values_in f) (labels_in f) c

  -- its type, its constant and its block are there
  abbrev pub HasCase : the_case.Case → Type 0
  HasCase c = ((c.ty < length a.table.types) × (c.value < length a.constants)) × (c.target < length (function_blocks f))

  -- what the value of an id is called
  abbrev pub called_at : ℕ → LocalName
  called_at id = value_name (trees a.table) (constants_of a) (values_in f) (labels_in f) id

  -- the name of a result and the mark behind it, where there is one
  abbrev pub result_pieces : Option ℕ → List TextPiece
  result_pieces None = []
  result_pieces (Some id) = local (called_at id) Space ++ mark (codes "=") Space
