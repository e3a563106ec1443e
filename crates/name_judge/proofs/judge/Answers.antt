use Rattle.std.proofs.Common.{arith}
use Rattle.ir_syntax.specs.View.{items_view}
use Rattle.name_judge.proofs.Counted.{no_fewer}
use Rattle.name_judge.proofs.judge.Goals as goal

pub check_counts-requires : goal.check_counts-requires
check_counts-requires c = let few = no_fewer (items_view c.args.items.now) in omega (arith, few, c.requires.few)
