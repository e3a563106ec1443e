use Rattle.run_rules.proofs.OnTraffic.Taken.{takes_unused, takes_heard}
use Rattle.run_rules.proofs.traffic.input.Input.take.Goals as goal

pub returns-then-not-must_read-clause-ok : goal.returns-then-not-must_read-clause-ok
returns-then-not-must_read-clause-ok g c =
    takes_unused c.args.self.now c.next.new.self c.next.result (g.I.Source.left c.args.source.now) c.must_read.result c.must_read.ensures c.if-not-must_read.true c.next.ensures.first c.next.ensures.same

pub returns-clause-ok : goal.returns-clause-ok
returns-clause-ok g c =
    takes_heard c.args.self.now c.refill.new.self c.next-2.new.self c.next-2.result _ _ c.must_read.result c.must_read.ensures c.if-not-must_read.false c.in_ok-refill.ensures.ok c.next-2.ensures.first c.next-2.ensures.same
