use Rattle.type_table.specs.Types.{tree}
use Rattle.record_table.specs.Constants.{value}
use Rattle.record_table.specs.Fields.{block}
use Rattle.record_write.specs.Operands.Numbered.{inside, value_of, label_of}
use Rattle.record_write.proofs.OnOperands.Chain.{last2, reworded}
use Rattle.record_write.proofs.OnOperands.Inside.{block_spelled}
use Rattle.record_write.proofs.operands.values.put_entry.Goals as goal

pub returns : goal.returns
returns c = λ f body has.
    let a = c.args.numbering.now in
    let t = tree a.table c.args.ty in
    last2 _ _ ((value (inside a f) t).spell (value_of a f c.args.part.value)) ((block (inside a f)).spell (label_of a f c.args.part.block)) _ _ (c.in_ok-put_value_at.ensures f body has.value)
    (reworded _ _ _ _ _ c.put_block.ensures (block_spelled a f c.args.part.block body has.block))
