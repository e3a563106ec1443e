-- For `blocks_of`: the rows of the blocks of a function.
use Rattle.std.specs.Prelude.{false, List, ◌∷◌, ◌++◌}
use Rattle.ir_terminals.specs.PhraseRows.Row.{Row, PhraseShape, mapped, joined_values, keep_second, keep_first, pair, optional, many, labelled}
use Rattle.ir_lexer.specs.Ahead.{Located}
use Rattle.ir_terminals.specs.declared.limits.Limits.{Limits}
use Rattle.ir_terminals.specs.declared.terminal.Terminal.TheVariants as terminal
use Rattle.ir_terminals.specs.Role.{class}
use Rattle.ir_terminals.specs.Terminal.{code}
use Rattle.ir_terminals.specs.Tokens.{word, label_row}
use Rattle.ir_phrases.specs.Instructions.Tree.{BlockTree}
use Rattle.ir_phrases.specs.Instructions.Instructions.{instruction_shape, instructions_row}
use Rattle.ir_phrases.specs.Instructions.Endings.{ending_shape, ending_row}

-- how blocks begin and go on
abbrev pub block_shape : PhraseShape
block_shape = record { first = code terminal.Label ∷ instruction_shape.first ++ ending_shape.first; more = ending_shape.more; empty = false }

-- LABEL? INST* END
unfoldable pub block_core : Limits → Row Located BlockTree
block_core limits =
    mapped (λ (label, (instructions, ending)). record { label = label; instructions = instructions; ending = ending })
    (pair (optional class label_row) (pair (instructions_row limits) (ending_row limits)))

-- LABEL? INSTRUCTION* ENDING
abbrev pub block_row : Limits → Row Located BlockTree
block_row limits = labelled block_shape (block_core limits)

-- BLOCK+
abbrev pub block_list_row : Limits → Row Located (List BlockTree)
block_list_row limits = joined_values (λ b bs. b ∷ bs) (block_row limits) (many class (block_row limits))

-- { BLOCK+ }
abbrev pub blocks_row : Limits → Row Located (List BlockTree)
blocks_row limits = keep_second (word terminal.OpenBrace) (keep_first (block_list_row limits) (word terminal.CloseBrace))
