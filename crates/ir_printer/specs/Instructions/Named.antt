-- For `put_alignment`, and how the code reads: what the values and blocks of a function are called, and what stands
-- behind an alignment.
use Rattle.std.specs.Prelude.{ℕ, List, [], ◌++◌, map, codes, Option, Some, None}
use Rattle.ir_lexer.specs.Pieces.{TextPiece, Separator, Nothing, Space}
use Rattle.type_table.specs.Types.{trees}
use Rattle.module_arena.specs.declared.entry.Function.{Function}
use Rattle.module_arena.specs.declared.instruction.Value as the_value
use Rattle.module_arena.specs.declared.instruction.Operand as the_operand
use Rattle.module_arena.specs.Lists.{Lists, value_names, function_blocks}
use Rattle.module_arena.specs.Module.{LocalName, Value, Operand}
use Rattle.module_arena.specs.View.{local_view, constants_of, value_view, operand_view, block_name}
use Rattle.canonical.specs.Phrase.{word, comma}
use Rattle.canonical.specs.Names.{natural}

-- what the parameters and results of a function are called
abbrev pub values_in : Function → List LocalName
values_in f = map local_view (value_names f)

-- what its blocks are called
abbrev pub labels_in : Function → List LocalName
labels_in f = map (λ b. local_view b.name) (function_blocks f)

module _ (a : Lists) (f : Function) where
  -- the value that is meant
  abbrev pub value_of : the_value.Value → Value
  value_of value = value_view (trees a.table) (constants_of a) (values_in f) (labels_in f) value

  -- the operand that is meant
  abbrev pub operand_of : the_operand.Operand → Operand
  operand_of operand = operand_view (trees a.table) (constants_of a) (values_in f) (labels_in f) operand

  -- what the block of an id is called
  abbrev pub label_of : ℕ → LocalName
  label_of id = block_name (trees a.table) (constants_of a) (values_in f) (labels_in f) id

-- what stands before an alignment that is there: nothing, for a comma comes next
abbrev pub before : Option ℕ → Separator → Separator
before None behind = behind
before (Some n) behind = Nothing

-- , align INT, where there is an alignment
abbrev pub alignment_pieces : Option ℕ → Separator → List TextPiece
alignment_pieces None behind = []
alignment_pieces (Some n) behind = comma Space ++ (word (codes "align") Space ++ natural n behind)
