-- The phrases of instructions and of blocks.
use Rattle.std.proofs.Common.{List, map}
use Rattle.module_arena.specs.declared.entry.Block as the_block
use Rattle.module_arena.specs.declared.entry.Function.{Function}
use Rattle.module_arena.specs.declared.instruction.Inst.{Inst}
use Rattle.module_arena.specs.Lists.{Lists}
use Rattle.canonical.specs.Instructions.{instruction_phrase, block_phrase}
use Rattle.canonical.specs.Phrase.{Phrase}
use Rattle.ir_printer.specs.Instructions.Lines.{instruction_of}
use Rattle.ir_printer.specs.Blocks.{block_of}

module _ (a : Lists) (f : Function) where
  -- those of instructions
  abbrev pub lines : List Inst → List Phrase
  lines instructions = map instruction_phrase (map (instruction_of a f) instructions)

  -- those of blocks
  abbrev pub block_lines : List the_block.Block → List Phrase
  block_lines blocks = map block_phrase (map (block_of a f) blocks)
