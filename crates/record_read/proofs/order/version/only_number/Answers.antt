use Rattle.std.proofs.Common.{Some, None}
use Rattle.record_read.proofs.OnOpening.Naming.{still_rest, takes_walk}
use Rattle.record_read.proofs.OnOrder.Numbered.{took_first, took_none}
use Rattle.record_read.proofs.order.version.only_number.Goals as goal

pub returns-in-Some-clause-is : goal.returns-in-Some-clause-is
returns-in-Some-clause-is c = λ operands walk.
    took_first c.args.reader.now c.take.new.self c.in-Some.first c.in-Some.ensures operands walk c.alone.result c.alone.new.reader.walk c.alone.ensures.is

pub returns-in-Some-clause-rest : goal.returns-in-Some-clause-rest
returns-in-Some-clause-rest c = still_rest c.args.reader.now c.take.new.self c.alone.new.reader (takes_walk c.args.reader.now.walk c.args.reader.now c.take.new.self (Some c.in-Some.first) c.in-Some.ensures) c.alone.ensures.rest

pub returns-in-None-clause-is : goal.returns-in-None-clause-is
returns-in-None-clause-is c = took_none c.args.reader.now c.take.new.self c.in-None.ensures

pub returns-in-None-clause-rest : goal.returns-in-None-clause-rest
returns-in-None-clause-rest c = takes_walk c.args.reader.now.walk c.args.reader.now c.take.new.self None c.in-None.ensures
