use Rattle.bitcode_read.proofs.OnHead.FrontsRead.{types_counted}
use Rattle.bitcode_read.proofs.head.types.read_types.Goals as goal

pub returns : goal.returns
returns c = types_counted c.args.types _ _ _ _ _ c.number-count.ensures c.in_ok-list.ensures
