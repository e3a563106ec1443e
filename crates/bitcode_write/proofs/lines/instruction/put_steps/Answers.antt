use Rattle.std.proofs.Common.{refl, ap, List, map}
use Rattle.type_table.specs.Tree.{ptr}
use Rattle.module_arena.specs.declared.instruction.Operand.{Operand}
use Rattle.record_table.specs.Layout.{counted}
use Rattle.record_table.specs.Lines.{typed_value}
use Rattle.record_write.specs.Operands.Numbered.{inside, operand_of}
use Rattle.record_write.proofs.OnOperands.Chain.{last3, reworded}
use Rattle.bitcode_write.specs.Lines.Parts.{type_operands, value_operands}
use Rattle.bitcode_write.proofs.lines.instruction.put_steps.Goals as goal

pub returns : goal.returns
returns c = λ f body has indices.
    let a = c.args.numbering.now in
    last3 _ _ (type_operands a f c.args.source) (value_operands a f ptr c.args.base.value) ((counted (typed_value (inside a f))).spell (map (operand_of a f) c.args.indices.now)) _ _ _ c.in_ok-put_type.ensures (c.in_ok-put_value.ensures f ptr refl body has)
    (reworded _ _ _ _ _ (c.put_operands.ensures f body (rw c.as_slice.ensures indices)) (ap (λ (xs : List Operand). (counted (typed_value (inside a f))).spell (map (operand_of a f) xs)) c.as_slice.ensures))
