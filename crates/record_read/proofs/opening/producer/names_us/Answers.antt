use Rattle.std.proofs.Common.{Some, None, refl, sym, arith}
use Rattle.record_read.proofs.OnOpening.Naming.{names_begin, names_not, names_on, names_over, still_rest, takes_walk}
use Rattle.record_read.proofs.opening.producer.names_us.Goals as goal

pub bytes-init : goal.bytes-init
bytes-init c = (omega arith, (refl, λ operands walk. names_begin operands c.args.reader.now.walk walk))

pub bytes-preserved : goal.bytes-preserved
bytes-preserved c =
    let lt = c.bytes-test.true in (
      omega (arith, lt),
      (
        still_rest c.args.reader.now c.bytes.reader c.takes.new.reader c.bytes.invariant.1.0 c.takes.ensures.rest,
        λ operands walk. names_on operands c.bytes.place c.byte_at.result c.takes.result c.bytes.reader.walk c.takes.new.reader.walk (c.bytes.invariant.1.1 operands walk) lt c.byte_at.ensures c.takes.ensures.is c.if-not-takes.false,
      ),
    )

pub returns-then-not-takes-clause-is : goal.returns-then-not-takes-clause-is
returns-then-not-takes-clause-is c = λ operands walk.
    sym (names_not operands c.bytes.place c.byte_at.result c.takes.result c.bytes.reader.walk c.takes.new.reader.walk (c.bytes.invariant.1.1 operands walk) c.bytes-test.true c.byte_at.ensures c.takes.ensures.is c.if-not-takes.true)

pub returns-then-not-takes-clause-rest : goal.returns-then-not-takes-clause-rest
returns-then-not-takes-clause-rest c = still_rest c.args.reader.now c.bytes.reader c.takes.new.reader c.bytes.invariant.1.0 c.takes.ensures.rest

pub returns-in-Some-clause-is : goal.returns-in-Some-clause-is
returns-in-Some-clause-is c = λ operands walk.
    let past = c.bytes-test.false in
    let most = c.bytes.invariant.0 in
    sym (names_over operands c.bytes.place c.bytes.reader c.take.new.self (Some c.in-Some.field-0) (c.bytes.invariant.1.1 operands walk) (omega (arith, past, most)) c.in-Some.ensures)

pub returns-in-Some-clause-rest : goal.returns-in-Some-clause-rest
returns-in-Some-clause-rest c = still_rest c.args.reader.now c.bytes.reader c.take.new.self c.bytes.invariant.1.0 (takes_walk c.bytes.reader.walk c.bytes.reader c.take.new.self (Some c.in-Some.field-0) c.in-Some.ensures)

pub returns-in-None-clause-is : goal.returns-in-None-clause-is
returns-in-None-clause-is c = λ operands walk.
    let past = c.bytes-test.false in
    let most = c.bytes.invariant.0 in
    sym (names_over operands c.bytes.place c.bytes.reader c.take.new.self None (c.bytes.invariant.1.1 operands walk) (omega (arith, past, most)) c.in-None.ensures)

pub returns-in-None-clause-rest : goal.returns-in-None-clause-rest
returns-in-None-clause-rest c = still_rest c.args.reader.now c.bytes.reader c.take.new.self c.bytes.invariant.1.0 (takes_walk c.bytes.reader.walk c.bytes.reader c.take.new.self None c.in-None.ensures)
