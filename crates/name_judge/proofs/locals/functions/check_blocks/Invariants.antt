use Rattle.ir_phrases.specs.Instructions.View.{block_view}
use Rattle.name_rules.specs.FunctionDemands.{block_demands, blocks_demands}
use Rattle.name_rules.specs.Locals.{announced_block}
use Rattle.type_judge.specs.Gathered.{known_of}
use Rattle.name_judge.specs.Locals.Names.{locals_of}
use Rattle.name_judge.proofs.OnLocals.Loops.{Going, whole, rest_at, then_at}
use Rattle.name_judge.proofs.locals.functions.check_blocks.Given as goal

abbrev pub invariant-all_blocks : goal.invariant-all_blocks
invariant-all_blocks l = Going l.initial.called l.called (whole block_view (block_demands (known_of l.known) (locals_of l.locals)) announced_block (blocks_demands (known_of l.known) (locals_of l.locals)) l.blocks) (rest_at block_view (block_demands (known_of l.known) (locals_of l.locals)) announced_block (blocks_demands (known_of l.known) (locals_of l.locals)) l.blocks l.block-index) (then_at block_view (block_demands (known_of l.known) (locals_of l.locals)) announced_block (blocks_demands (known_of l.known) (locals_of l.locals)) l.blocks l.block-index)
