use Rattle.type_read.proofs.OnArena.Indexed.{type_takes, none_broken, type_read, no_type_read}
use Rattle.type_read.proofs.arena.places.read_type.Goals as goal

pub returns-then-number-count-clause-takes : goal.returns-then-number-count-clause-takes
returns-then-number-count-clause-takes c = type_takes c.args.m.now c.number-number.new.self c.ask.new.self c.number-number.result c.type_count-count.result c.number-number.ensures c.ask.ensures

pub returns-then-number-count-clause-reads : goal.returns-then-number-count-clause-reads
returns-then-number-count-clause-reads c = λ k h.
    type_read c.args.m.now c.number-number.new.self c.ask.new.self c.number-number.result c.type_count-count.result c.number-number.ensures c.ask.ensures k h c.type_count-count.ensures.listed c.type_count-count.ensures.there c.new.result c.if-number-count.true c.new.ensures

pub returns-else-number-count-clause-takes : goal.returns-else-number-count-clause-takes
returns-else-number-count-clause-takes c = type_takes c.args.m.now c.number-number.new.self c.ask.new.self c.number-number.result c.type_count-count.result c.number-number.ensures c.ask.ensures

pub returns-else-number-count-clause-known : goal.returns-else-number-count-clause-known
returns-else-number-count-clause-known c = none_broken c.args.m.now c.number-number.new.self c.ask.new.self c.number-number.result c.type_count-count.result c.number-number.ensures c.ask.ensures c.if-number-count.false c.stops_where_broken.ensures

pub returns-else-number-count-clause-reads : goal.returns-else-number-count-clause-reads
returns-else-number-count-clause-reads c = λ k h.
    no_type_read c.args.m.now c.number-number.new.self c.ask.new.self c.number-number.result c.type_count-count.result c.number-number.ensures c.ask.ensures k h c.type_count-count.ensures.listed c.type_count-count.ensures.there c.if-number-count.false
