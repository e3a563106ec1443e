use Rattle.std.proofs.Common.{subst, sym}
use Rattle.ir_eval.specs.Value.{IsInteger}
use Rattle.ir_intrinsics.specs.Operands.{IsOperand, second_width, third_width}
use Rattle.run_names.proofs.OnHost.Operands.{evaluated}
use Rattle.run_names.proofs.host.integer.evaluate.Goals as goal

pub apply-requires-clause-a : goal.apply-requires-clause-a
apply-requires-clause-a c = subst (λ v. IsInteger c.args.width v) (sym c.operand_at-first.ensures) c.requires.first

pub apply-requires-clause-b : goal.apply-requires-clause-b
apply-requires-clause-b c = subst (λ v. IsOperand (second_width c.args.which c.args.width) v) (sym c.operand_at-second.ensures) c.requires.second

pub apply-requires-clause-c : goal.apply-requires-clause-c
apply-requires-clause-c c = subst (λ v. IsOperand (third_width c.args.which c.args.width) v) (sym c.operand_at-third.ensures) c.requires.third

pub returns : goal.returns
returns c = λ m.
    evaluated c.args.which c.args.width c.args.arguments.now m c.operand_at-first.result c.operand_at-second.result c.operand_at-third.result c.apply.result c.operand_at-first.ensures
    c.operand_at-second.ensures c.operand_at-third.ensures c.apply.ensures.value
