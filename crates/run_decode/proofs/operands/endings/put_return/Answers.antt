use Rattle.run_decode.proofs.OnOperands.Ended.{return_meant}
use Rattle.run_decode.proofs.operands.endings.put_return.Goals as goal

pub returns-clause-action : goal.returns-clause-action
returns-clause-action c = return_meant c.args.scope.now c.args.from c.put_operand.new.pools c.args.operand c.in_ok-value.value c.in_ok-value.ensures.leaves
