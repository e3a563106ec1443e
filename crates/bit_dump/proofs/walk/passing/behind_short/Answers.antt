use Rattle.std.proofs.Common.{sym, arith}
use Rattle.bit_dump.proofs.OnWalk.Short.{passed_together}
use Rattle.bit_dump.proofs.walk.passing.behind_short.Goals as goal

pub returns-then-chunks-eq0 : goal.returns-then-chunks-eq0
returns-then-chunks-eq0 c = passed_together c.args.count c.in-Ok.chunks c.args.cursor.now c.fixed.new.self (omega arith) c.if-chunks-eq0.true (rw c.copy-behind.ensures at (sym c.in-Ok.ensures.read))
