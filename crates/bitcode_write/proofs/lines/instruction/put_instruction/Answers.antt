use Rattle.std.specs.Prelude.{option_to_list}
use Rattle.record_write.proofs.OnOperands.Chain.{last3, reworded}
use Rattle.bitcode_write.proofs.OnLines.Lines.{parts_known, parts_stand, line_spelled}
use Rattle.bitcode_write.specs.Lines.Parts.{named_in, flags_in, result_operands, parts_operands}
use Rattle.bitcode_write.proofs.lines.instruction.put_instruction.Goals as goal

pub put_parts-requires : goal.put_parts-requires
put_parts-requires c = parts_known c.args.numbering.now c.args.function.now c.args.instruction.now c.requires

pub returns : goal.returns
returns c = λ line.
    let a = c.args.numbering.now in
    let f = c.args.function.now in
    let i = c.args.instruction.now in
    reworded _ _ _ _ _
    (last3 _ _ (result_operands a f (named_in i)) (option_to_list (flags_in i)) (parts_operands a f i) _ _ _ (rw c.named_first.ensures at c.in_ok-put_name.ensures) (rw c.flags_of.ensures at c.in_ok-put_flags.ensures)
    (c.put_parts.ensures line.body (parts_stand a f i line.body c.requires.known line.stands)))
    (line_spelled a f i line.stands)
