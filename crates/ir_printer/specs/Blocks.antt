-- Says how the code reads: the blocks of a function, by the ids of an arena.
use Rattle.std.specs.Prelude.{◌<◌, length, All}
use Rattle.type_table.specs.Types.{trees}
use Rattle.module_arena.specs.declared.entry.Block as the_block
use Rattle.module_arena.specs.declared.entry.Function.{Function}
use Rattle.module_arena.specs.declared.instruction.Inst.{Inst}
use Rattle.module_arena.specs.Known.{KnowsInst}
use Rattle.module_arena.specs.Lists.{Lists, value_names, function_blocks}
use Rattle.module_arena.specs.Mentions.{result_of, end_operands_of, targets_of}
use Rattle.module_arena.specs.Module.{Block}
use Rattle.module_arena.specs.View.{constants_of, block_view}
use Rattle.ir_printer.specs.Instructions.Named.{values_in, labels_in}
use Rattle.ir_printer.specs.Instructions.Parts.{HasThis}

module _ (a : Lists) (f : Function) where
  -- the ids of an instruction are those of the arena and the function, and so is that of its result
  pub record HasInst (i : Inst) : Type 0 where
    pub known : KnowsInst (length a.table.types) (length a.constants) (length (value_names f)) (length (function_blocks f)) i
    pub result : All (λ id. id < length (value_names f)) (result_of i)

  -- those of all in a block are
  pub record HasBlock (b : the_block.Block) : Type 0 where
    pub instructions : All HasInst b.instructions
    pub operands : All (HasThis a f) (end_operands_of b.end)
    pub targets : All (λ id. id < length (function_blocks f)) (targets_of b.end)

  -- a block
  abbrev pub block_of : the_block.Block → Block
  block_of b = block_view (trees a.table) (constants_of a) (values_in f) (labels_in f) b
