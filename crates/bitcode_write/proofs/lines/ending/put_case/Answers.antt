use Rattle.std.proofs.Common.{ap, ◌∙◌, List, ℕ, ◌++◌}
use Rattle.record_table.specs.Constants.{spell_constant}
use Rattle.record_write.specs.Operands.Numbered.{inside, constant_of}
use Rattle.record_write.proofs.OnOperands.Chain.{last2, reworded}
use Rattle.record_write.proofs.OnOperands.Inside.{same_spelled, block_spelled}
use Rattle.bitcode_write.specs.Lines.Parts.{block_operands}
use Rattle.bitcode_write.proofs.lines.ending.put_case.Goals as goal

pub returns : goal.returns
returns c = λ f t wide body has.
    let a = c.args.numbering.now in
    let constant = constant_of a c.args.part.value in
    last2 _ _ (spell_constant (inside a f) t constant) (block_operands a f c.args.part.target) _ _
    (c.in_ok-put_constant.ensures t wide has.value ∙ ap (λ (l : List ℕ). c.args.operands.now.items ++ l) (same_spelled a f t constant))
    (reworded _ _ _ _ _ c.put_block.ensures (block_spelled a f c.args.part.target body has.block))
