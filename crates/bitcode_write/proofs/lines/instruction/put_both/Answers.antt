use Rattle.type_table.specs.Types.{tree}
use Rattle.record_write.proofs.OnOperands.Chain.{last2}
use Rattle.bitcode_write.specs.Lines.Parts.{operand_operands, value_operands}
use Rattle.bitcode_write.proofs.lines.instruction.put_both.Goals as goal

pub returns : goal.returns
returns c = λ f body left right.
    let a = c.args.numbering.now in
    last2 _ _ (operand_operands a f c.args.left) (value_operands a f (tree a.table c.args.left.ty) c.args.right) _ _ (c.in_ok-put_operand.ensures f body left) (c.put_value_at.ensures f body right)
