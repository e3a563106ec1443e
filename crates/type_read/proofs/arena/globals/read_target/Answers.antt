use Rattle.type_read.proofs.OnArena.Indexed.{among_targets}
use Rattle.type_read.proofs.arena.globals.read_target.Goals as goal

pub returns-clause-reads : goal.returns-clause-reads
returns-clause-reads c = λ k h.
    among_targets c.args.m.now c.read_among.new.m k c.target_count-count.result c.read_among.result h c.target_count-count.ensures (c.read_among.ensures.reads k h)
