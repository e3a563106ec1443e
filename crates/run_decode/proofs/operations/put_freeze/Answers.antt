use Rattle.run_decode.proofs.Meant.{freeze_meant}
use Rattle.run_decode.proofs.operations.put_freeze.Goals as goal

pub returns-clause-action : goal.returns-clause-action
returns-clause-action c = freeze_meant c.args.scope.now c.put_parts.new.pools c.args.to c.to.result c.args.operand c.in_ok-parts.parts c.to.ensures c.in_ok-parts.ensures.parts
