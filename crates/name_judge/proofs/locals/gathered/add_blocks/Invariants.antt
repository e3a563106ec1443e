use Rattle.std.proofs.Common.{take, map}
use Rattle.std.specs.Prelude.{flat_map}
use Rattle.ir_phrases.specs.Instructions.View.{block_view}
use Rattle.name_rules.specs.Locals.{announced_block}
use Rattle.name_judge.specs.Locals.Names.{Announces}
use Rattle.name_judge.proofs.locals.gathered.add_blocks.Given as goal

abbrev pub invariant-all_blocks : goal.invariant-all_blocks
invariant-all_blocks l = Announces l.initial.names l.names (flat_map announced_block (map block_view (take l.block-index l.blocks)))
