use Rattle.std.proofs.Common.{ap, sym, List, ℕ, ◌++◌, ◌∙◌}
use Rattle.type_table.specs.Types.{tree}
use Rattle.record_write.proofs.OnOperands.Chain.{last3}
use Rattle.record_write.proofs.OnOperands.Inside.{block_spelled}
use Rattle.bitcode_write.specs.Lines.Parts.{operand_operands, block_operands, cases_operands}
use Rattle.bitcode_write.proofs.lines.ending.put_switch.Goals as goal

pub returns : goal.returns
returns c = λ f body has to cases.
    let a = c.args.numbering.now in
    let t = tree a.table c.args.part.ty in
    last3 _ _ (operand_operands a f c.args.part) (block_operands a f c.args.otherwise) (cases_operands a f t c.args.cases.now) _ _ _ (c.in_ok-put_operand.ensures f body has)
    (c.in_ok-put_block.ensures ∙ ap (λ (l : List ℕ). c.put_operand.new.operands.items ++ l) (block_spelled a f c.args.otherwise body to))
    (c.put_cases.ensures f t (sym c.is_wide-wide.ensures) body cases)
