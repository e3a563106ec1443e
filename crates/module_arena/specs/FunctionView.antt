-- For `put_value`, `put_incoming`, `put_operand`, `put_instruction` and `put_ending` of the writers of records, and how the code reads: what
-- the ids in a function of an arena stand for.
use Rattle.std.specs.Prelude.{ℕ, List, map}
use Rattle.type_table.specs.Types.{trees}
use Rattle.module_arena.specs.declared.entry.Block as the_block
use Rattle.module_arena.specs.declared.entry.Function.{Function}
use Rattle.module_arena.specs.declared.instruction.Ending as the_ending
use Rattle.module_arena.specs.declared.instruction.Incoming as the_incoming
use Rattle.module_arena.specs.declared.instruction.Inst.{Inst}
use Rattle.module_arena.specs.declared.instruction.Operand as the_operand
use Rattle.module_arena.specs.declared.instruction.Value as the_value
use Rattle.module_arena.specs.Lists.{Lists, value_names, function_blocks}
use Rattle.module_arena.specs.Module as m
use Rattle.module_arena.specs.View.{constants_of, local_view, block_name, value_view, operand_view, incoming_view, inst_view, ending_view, block_view}

module _ (a : Lists) (f : Function) where
  -- what its parameters and results are called
  abbrev pub values_in : List m.LocalName
  values_in = map local_view (value_names f)

  -- what its blocks are called
  abbrev pub labels_in : List m.LocalName
  labels_in = map (λ b. local_view b.name) (function_blocks f)

  -- the name of the block with that id
  abbrev pub label_of : ℕ → m.LocalName
  label_of id = block_name (trees a.table) (constants_of a) values_in labels_in id

  -- the value that is meant
  abbrev pub value_of : the_value.Value → m.Value
  value_of v = value_view (trees a.table) (constants_of a) values_in labels_in v

  -- the operand that is meant
  abbrev pub operand_of : the_operand.Operand → m.Operand
  operand_of o = operand_view (trees a.table) (constants_of a) values_in labels_in o

  -- the entry of a phi that is meant
  abbrev pub incoming_of : the_incoming.Incoming → m.Incoming
  incoming_of i = incoming_view (trees a.table) (constants_of a) values_in labels_in i

  -- the instruction that is meant
  abbrev pub instruction_of : Inst → m.Instruction
  instruction_of i = inst_view (trees a.table) (constants_of a) values_in labels_in i

  -- the end of a block that is meant
  abbrev pub ending_of : the_ending.Ending → m.Ending
  ending_of e = ending_view (trees a.table) (constants_of a) values_in labels_in e

  -- the block that is meant
  abbrev pub block_of : the_block.Block → m.Block
  block_of b = block_view (trees a.table) (constants_of a) values_in labels_in b
