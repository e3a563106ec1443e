use Rattle.ir_run.proofs.BehindVariables.{near_where}
use Rattle.ir_run.proofs.beginning.place_all.Goals as goal

pub returns-clause-near : goal.returns-clause-near
returns-clause-near c = near_where c.args.names.now c.spots-spots.result.now c.spots-spots.ensures c.place_variables.result c.place_variables.new.memory c.place_variables.ensures.placed c.place_variables.ensures.fresh
