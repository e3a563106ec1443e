use Rattle.type_read.proofs.OnArena.Indexed.{among_all}
use Rattle.type_read.proofs.arena.globals.read_global.Goals as goal

pub returns-clause-reads : goal.returns-clause-reads
returns-clause-reads c = λ k h.
    among_all c.args.m.now c.read_among.new.m k c.count_of-count.result c.read_among.result h c.count_of-count.ensures (c.read_among.ensures.reads k h)
