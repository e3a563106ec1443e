use Rattle.std.proofs.Common.{sym, arith}
use Rattle.ir_memory.proofs.OnMasked.WordLists.{set_first, set_other}
use Rattle.ir_memory.proofs.masked.words.Words.put.Goals as goal

pub returns-then-place-eq0 : goal.returns-then-place-eq0
returns-then-place-eq0 c = rw (← c.self.view_is) (sym (set_first c.self.inside.first c.args.word c.self.inside.others.items c.args.place (omega arith)))

pub returns : goal.returns
returns c = rw (← c.self.view_is) (sym (set_other c.self.inside.first c.args.word c.self.inside.others.items c.args.place (omega arith)))
