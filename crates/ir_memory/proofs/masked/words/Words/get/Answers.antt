use Rattle.std.proofs.Common.{sym, arith}
use Rattle.ir_memory.proofs.OnMasked.WordLists.{read_first}
use Rattle.ir_memory.proofs.masked.words.Words.get.Goals as goal

pub returns-then-place-eq0 : goal.returns-then-place-eq0
returns-then-place-eq0 c = rw (← c.self.view_is) (sym (read_first c.self.inside.first c.self.inside.others.items c.args.place (omega arith)))
