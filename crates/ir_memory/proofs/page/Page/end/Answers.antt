use Rattle.std.proofs.Common.{length, ap, arith}
use Rattle.ir_memory.proofs.Paged.{row_past}
use Rattle.ir_memory.proofs.page.Page.end.Goals as goal

pub returns-then-place-len-clause-here : goal.returns-then-place-len-clause-here
returns-then-place-len-clause-here c = row_past c.args.self.now c.args.place (omega (arith, ap length c.self.view_is))
