use Rattle.std.proofs.Common.{refl}
use Rattle.type_table.specs.Tree.{ptr}
use Rattle.record_table.specs.Fields.{alignment}
use Rattle.record_write.proofs.OnOperands.Chain.{last2}
use Rattle.bitcode_write.specs.Lines.Parts.{value_operands}
use Rattle.bitcode_write.proofs.lines.instruction.put_address.Goals as goal

pub returns : goal.returns
returns c = λ f body has align.
    last2 _ _ (value_operands c.args.numbering.now f ptr c.args.address.value) (alignment.spell c.args.align) _ _ (c.in_ok-put_value.ensures f ptr refl body has) (c.put_alignment.ensures align)
