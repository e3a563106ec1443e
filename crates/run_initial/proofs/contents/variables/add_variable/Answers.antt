use Rattle.std.proofs.Common.{Err, ap}
use Rattle.run_initial.proofs.contents.variables.add_variable.Goals as goal

pub unreachable-requires : goal.unreachable-requires
unreachable-requires c = c.in-Err-Undefined.ensures.defined _ (ap Err c.in-Err-Undefined.field-0-is)
