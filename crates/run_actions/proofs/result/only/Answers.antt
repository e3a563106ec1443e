use Rattle.run_actions.proofs.Wide.{one_item}
use Rattle.run_actions.proofs.result.only.Goals as goal

pub returns : goal.returns
returns g c = one_item c.args.items.now c.index-items-0.result c.requires c.index-items-0.is
