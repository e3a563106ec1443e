use Rattle.std.proofs.Common.{◌∙◌, length}
use Rattle.instruction_verify.proofs.OnLast.OperandsTold.{types_told}
use Rattle.instruction_verify.proofs.last.written.have_types_written.Goals as goal

pub returns : goal.returns
returns c f vs bs told =
    let a = c.args.judge.now in
    c.all_have.ensures ∙ types_told a vs bs f c.args.value_types.now (length a.table.types) (length a.constants) c.args.operands.now told c.requires.known
