use Rattle.std.proofs.Common.{Err, ap}
use Rattle.ir_run.proofs.arguments.add_block.Goals as goal

pub unreachable-requires : goal.unreachable-requires
unreachable-requires c = c.in-Err-Undefined.ensures.defined _ (ap Err c.in-Err-Undefined.field-0-is)
