use Rattle.std.proofs.Common.{◌∷◌, [], refl, ap, List, ℕ, ◌++◌, ◌∙◌}
use Rattle.type_table.specs.Tree.{int}
use Rattle.record_write.proofs.OnOperands.Chain.{last4, reworded}
use Rattle.record_write.proofs.OnOperands.Inside.{block_spelled}
use Rattle.bitcode_write.specs.Lines.Parts.{value_operands, block_operands}
use Rattle.bitcode_write.proofs.lines.ending.put_branch.Goals as goal

pub returns : goal.returns
returns c = λ f body has then_to else_to.
    let a = c.args.numbering.now in
    last4 _ _ (1 ∷ []) (value_operands a f (int 1) c.args.condition) (block_operands a f c.args.then_to) (block_operands a f c.args.else_to) _ _ _ _ c.in_ok-put_number.ensures (c.in_ok-put_value.ensures f (int 1) refl body has)
    (c.in_ok-put_block.ensures ∙ ap (λ (l : List ℕ). c.put_value.new.operands.items ++ l) (block_spelled a f c.args.then_to body then_to))
    (reworded _ _ _ _ _ c.put_block-2.ensures (block_spelled a f c.args.else_to body else_to))
