use Rattle.run_decode.proofs.OnOperands.Ended.{jump_meant}
use Rattle.run_decode.proofs.operands.endings.put_jump.Goals as goal

pub returns-clause-action : goal.returns-clause-action
returns-clause-action c = jump_meant c.args.scope.now c.args.from c.put_edge.new.pools c.args.to c.in_ok-edge.edge c.in_ok-edge.ensures.edge
