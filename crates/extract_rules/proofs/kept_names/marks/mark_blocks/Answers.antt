use Rattle.std.proofs.Common.{◌≡◌, List, length, arith}
use Rattle.module_arena.specs.declared.entry.Block.{Block}
use Rattle.module_arena.specs.Module.{Constant}
use Rattle.extract_rules.specs.KeptNames.Marks.{in_block}
use Rattle.extract_rules.proofs.Adding.{item_at}
use Rattle.extract_rules.proofs.OnKeptNames.Marking.{more_marked, whole_marked}
use Rattle.extract_rules.proofs.kept_names.marks.mark_blocks.Goals as goal

pub loop-block-preserved : goal.loop-block-preserved
loop-block-preserved c =
    more_marked (λ (cs : List Constant). λ (x : Block). in_block cs x) c.args.blocks.now c.loop-block.block-index c.block-item.result c.args.marks.now c.loop-block.marks c.mark_block.new.marks
    (item_at c.args.blocks.now c.loop-block.block-index c.block-item.result c.loop-block-test.true c.block-item.is) c.loop-block.invariant c.mark_block.ensures

pub returns : goal.returns
returns c =
    let end : c.loop-block.block-index ≡ length c.args.blocks.now = omega (arith, c.loop-block-test.false, c.loop-block.auto.block-index-end) in
    whole_marked (λ (cs : List Constant). λ (x : Block). in_block cs x) c.args.blocks.now c.loop-block.block-index c.args.marks.now c.loop-block.marks end c.loop-block.invariant
