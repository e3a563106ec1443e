use Rattle.std.proofs.Common.{refl}
use Rattle.type_table.specs.Tree.{int}
use Rattle.type_table.specs.Types.{tree}
use Rattle.record_write.proofs.OnOperands.Chain.{last4}
use Rattle.bitcode_write.specs.Lines.Parts.{type_operands, value_operands}
use Rattle.bitcode_write.proofs.lines.instruction.put_choice.Goals as goal

pub returns : goal.returns
returns c = λ f is.
    let a = c.args.numbering.now in
    let choice = c.args.choice.now in
    let t = tree a.table choice.first.ty in
    last4 _ _ (type_operands a f choice.first.ty) (value_operands a f (int 1) choice.condition.value) (value_operands a f t choice.first.value) (value_operands a f t choice.second.value) _ _ _ _
    c.in_ok-put_type.ensures (c.in_ok-put_value.ensures f (int 1) refl is.body is.condition) (c.in_ok-put_value_at.ensures f is.body is.first) (c.put_value_at-2.ensures f is.body is.second)
