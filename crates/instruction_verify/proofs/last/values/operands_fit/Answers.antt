use Rattle.std.proofs.Common.{◌∙◌}
use Rattle.instruction_verify.proofs.OnLast.OperandsTold.{fits_told}
use Rattle.instruction_verify.proofs.last.values.operands_fit.Goals as goal

pub returns : goal.returns
returns c vs bs = c.all_fit.ensures ∙ fits_told c.args.judge.now vs bs c.args.operands.now
