use Rattle.std.proofs.Common.{arith, sym}
use Rattle.std.proofs.lemmas.List.{take_all}
use Rattle.ir_phrases.specs.Instructions.View.{block_view}
use Rattle.name_rules.specs.Locals.{announced_block}
use Rattle.name_judge.proofs.OnLocals.Loops.{flat_more}
use Rattle.name_judge.proofs.OnLocals.Named.{announces_none, announces_both}
use Rattle.name_judge.proofs.locals.gathered.add_blocks.Goals as goal

pub all_blocks-init : goal.all_blocks-init
all_blocks-init c = announces_none _

pub all_blocks-preserved : goal.all_blocks-preserved
all_blocks-preserved c =
    rw (flat_more announced_block block_view c.args.blocks.now c.all_blocks.block-index c.block-item.result (omega arith) c.block-item.is)
    (announces_both _ _ _ _ _ c.all_blocks.invariant c.in_ok-add_block.ensures)

pub returns : goal.returns
returns c = rw (sym (take_all c.all_blocks.block-index c.args.blocks.now (omega arith))) c.all_blocks.invariant
