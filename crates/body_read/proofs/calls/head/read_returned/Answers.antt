use Rattle.body_read.proofs.OnCalls.Heads.{returned_some, returned_none}
use Rattle.body_read.proofs.calls.head.read_returned.Goals as goal

pub returns-then-number-count : goal.returns-then-number-count
returns-then-number-count c =
    returned_some c.args.m.now c.number-number.new.self c.number-number.result c.type_count-count.result c.number-number.ensures c.type_count-count.ensures.listed c.type_count-count.ensures.there c.new.result c.if-number-count.true c.new.ensures

pub returns : goal.returns
returns c =
    returned_none c.args.m.now c.number-number.new.self c.number-number.result c.type_count-count.result c.number-number.ensures c.type_count-count.ensures.listed c.type_count-count.ensures.there c.stop.new.self c.if-number-count.false
    c.stop.ensures c.stops_where_broken.ensures
