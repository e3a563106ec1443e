use Rattle.std.proofs.Common.{subst, sym}
use Rattle.body_read.specs.Operands.Found.{Finds}
use Rattle.body_read.proofs.OnOperands.Leaves.{block_found}
use Rattle.body_read.specs.Endings.Ends.{HasEnding, condition, ending_in}
use Rattle.body_read.proofs.OnEndings.Parts.{condition_found}
use Rattle.body_read.proofs.endings.branch.read_condition.Goals as goal

pub returns : goal.returns
returns c =
    let m0 = c.args.m.now in
    let m1 = c.read_operand_of.new.m in
    let m2 = c.read_block-then_to.new.m in
    let m3 = c.read_block-else_to.new.m in
    subst (Finds HasEnding ending_in condition m0 m3) (sym c.branch_of.ensures)
    (condition_found m0 m1 m2 m3 c.bit-bit.result c.in_ok-value.value c.read_block-then_to.result c.read_block-else_to.result c.bit-bit.ensures.is c.in_ok-value.ensures
    (block_found m1 m2 c.read_block-then_to.result c.read_block-then_to.ensures.takes c.read_block-then_to.ensures.reads)
    (block_found m2 m3 c.read_block-else_to.result c.read_block-else_to.ensures.takes c.read_block-else_to.ensures.reads))
