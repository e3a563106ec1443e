use Rattle.std.proofs.Common.{Some, sym, subst}
use Rattle.std.proofs.lemmas.Bool.{false≢true}
use Rattle.module_arena.specs.Known.{HasGlobal, counts}
use Rattle.module_arena.specs.Lists.{Lists}
use Rattle.type_read.proofs.OnArena.Indexed.{takes_place, global_read, undeclared_read}
use Rattle.type_read.proofs.arena.globals.read_among.Goals as goal

pub returns-then-is_declared-clause-takes : goal.returns-then-is_declared-clause-takes
returns-then-is_declared-clause-takes c = takes_place c.args.m.now c.read_place.new.reader c.args.count (Some c.in_ok-index.index) c.in_ok-index.ensures

pub returns-then-is_declared-clause-reads : goal.returns-then-is_declared-clause-reads
returns-then-is_declared-clause-reads c = λ k h.
    global_read c.args.m.now k h c.args.count c.requires c.read_place.new.reader c.in_ok-index.index c.global_at-id.result c.global_at-id.ensures c.in_ok-index.ensures

pub returns-else-is_declared-clause-takes : goal.returns-else-is_declared-clause-takes
returns-else-is_declared-clause-takes c = takes_place c.args.m.now c.read_place.new.reader c.args.count (Some c.in_ok-index.index) c.in_ok-index.ensures

pub returns-else-is_declared-clause-reads : goal.returns-else-is_declared-clause-reads
returns-else-is_declared-clause-reads c = λ k h.
    undeclared_read c.args.m.now k h c.args.count c.requires c.read_place.new.reader c.in_ok-index.index c.global_at-id.result c.global_at-id.ensures (λ there. false≢true (c.if-is_declared.ensures.1 (subst (λ (a : Lists). HasGlobal (counts a) c.global_at-id.result) (sym c.arena.ensures) there))) c.in_ok-index.ensures
