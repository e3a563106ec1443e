-- Says how the code reads: what is built over the names of a function's values and blocks.
use Rattle.std.specs.Prelude.{◌≡◌, ℕ, ◌+◌, cond, List, [], ◌∷◌, map, length, All}
use Rattle.std.specs.List.{sum_by}
use Rattle.ir_phrases.specs.Instructions.Tree.{InstructionTree, BlockTree}
use Rattle.type_table.specs.Types.{trees}
use Rattle.module_arena.specs.declared.instruction.Inst.{Inst}
use Rattle.module_arena.specs.declared.entry.Block as the_block
use Rattle.module_arena.specs.Lists.{Lists}
use Rattle.module_arena.specs.Known.{KnowsInst, KnowsBlock}
use Rattle.module_arena.specs.Module.{LocalName, Instruction, Block}
use Rattle.module_arena.specs.View.{constants_of, block_name, inst_view, block_view}
use Rattle.name_rules.specs.Bodies.{ending_in}
use Rattle.name_rules.specs.Locals.{has_result}
use Rattle.ir_resolve.specs.InstructionBuild.Named.{built}

-- how many results an instruction has
abbrev pub result_count : InstructionTree → ℕ
result_count written = cond (has_result written) 1 0

-- how many those of a block have
abbrev pub block_results_count : BlockTree → ℕ
block_results_count written = sum_by result_count written.instructions

module _ (values : List LocalName) where
  -- instructions, whose results are the values from the next one on
  abbrev pub instructions_built : ℕ → List InstructionTree → List Instruction
  instructions_built next [] = []
  instructions_built next (written ∷ more) = built values next written ∷ instructions_built (next + result_count written) more

  module _ (labels : List LocalName) where
    -- the block with that id, whose results are the values from the next one on
    abbrev pub block_built : ℕ → ℕ → BlockTree → Block
    block_built id next written = record {
      name = block_name [] [] values labels id;
      instructions = instructions_built next written.instructions;
      ending = ending_in written.ending;
    }

    -- the blocks from that id on
    abbrev pub blocks_built : ℕ → ℕ → List BlockTree → List Block
    blocks_built id next [] = []
    blocks_built id next (written ∷ more) = block_built id next written ∷ blocks_built (id + 1) (next + block_results_count written) more

    -- the instructions are these, in order
    pub record AreInsts (a : Lists) (is : List Inst) (expected : List Instruction) : Type 0 where
      pub known : All (KnowsInst (length a.table.types) (length a.constants) (length values) (length labels)) is
      pub instructions : map (inst_view (trees a.table) (constants_of a) values labels) is ≡ expected

    -- the block is this one
    pub record IsBlock (a : Lists) (b : the_block.Block) (expected : Block) : Type 0 where
      pub known : KnowsBlock (length a.table.types) (length a.constants) (length values) (length labels) b
      pub block : block_view (trees a.table) (constants_of a) values labels b ≡ expected

    -- the blocks are these, in order
    pub record AreBlocks (a : Lists) (bs : List the_block.Block) (expected : List Block) : Type 0 where
      pub known : All (KnowsBlock (length a.table.types) (length a.constants) (length values) (length labels)) bs
      pub blocks : map (block_view (trees a.table) (constants_of a) values labels) bs ≡ expected
