use Rattle.type_table.specs.Types.{tree}
use Rattle.record_table.specs.Constants.{value}
use Rattle.record_table.specs.Fields.{ty}
use Rattle.record_write.specs.Operands.Numbered.{indices, inside, value_of}
use Rattle.record_write.proofs.OnOperands.Chain.{last2}
use Rattle.record_write.proofs.operands.values.put_operand.Goals as goal

pub returns : goal.returns
returns c = λ f body has.
    let a = c.args.numbering.now in
    let t = tree a.table c.args.part.ty in
    last2 _ _ ((ty (indices a)).spell t) ((value (inside a f) t).spell (value_of a f c.args.part.value)) _ _ c.in_ok-put_type.ensures (c.put_value_at.ensures f body has)
