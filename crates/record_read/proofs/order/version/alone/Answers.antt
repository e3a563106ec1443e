use Rattle.std.proofs.Common.{Some, None}
use Rattle.record_read.proofs.OnOpening.Naming.{takes_walk}
use Rattle.record_read.proofs.OnOrder.Numbered.{took_another, took_no_other}
use Rattle.record_read.proofs.order.version.alone.Goals as goal

pub returns-in-Some-clause-is : goal.returns-in-Some-clause-is
returns-in-Some-clause-is c = took_another c.args.number c.args.reader.now c.take.new.self c.in-Some.field-0 c.in-Some.ensures

pub returns-in-Some-clause-rest : goal.returns-in-Some-clause-rest
returns-in-Some-clause-rest c = takes_walk c.args.reader.now.walk c.args.reader.now c.take.new.self (Some c.in-Some.field-0) c.in-Some.ensures

pub returns-in-None-clause-is : goal.returns-in-None-clause-is
returns-in-None-clause-is c = took_no_other c.args.number c.args.reader.now c.take.new.self c.in-None.ensures

pub returns-in-None-clause-rest : goal.returns-in-None-clause-rest
returns-in-None-clause-rest c = takes_walk c.args.reader.now.walk c.args.reader.now c.take.new.self None c.in-None.ensures
