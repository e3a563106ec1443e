use Rattle.std.proofs.Common.{◌∙◌, ap}
use Rattle.ir_memory.specs.declared.leaf.Leaf.TheVariants as leaf
use Rattle.ir_memory.specs.Cell.{read}
use Rattle.ir_memory.specs.Seen.{at}
use Rattle.ir_memory.proofs.ReadBack.{whole_read}
use Rattle.ir_memory.proofs.Writes.{pointer_gathered}
use Rattle.ir_memory.proofs.read.read_pointer.Goals as goal

pub returns-in-Some : goal.returns-in-Some
returns-in-Some c =
    whole_read c.in-Some.pointer
    ∙ ap (read leaf.Ptr) (pointer_gathered (at c.args.pieces.now) c.args.block.now c.args.offset c.in-Some.pointer c.requires.within c.in-Some.ensures.some)
