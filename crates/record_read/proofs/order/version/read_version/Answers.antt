use Rattle.std.proofs.Common.{refl, ap, arith}
use Rattle.record_read.specs.Reader.{Reader}
use Rattle.record_read.proofs.OnOrder.Numbered.{only_none, only_some, still_behind}
use Rattle.record_read.proofs.OnOrder.Recorded.{stays_two}
use Rattle.record_read.proofs.order.version.read_version.Goals as goal

pub end_number-requires : goal.end_number-requires
end_number-requires c =
    let at = ap (λ (r : Reader). r.at) c.only_number.ensures.rest in
    let some = c.requires in
    omega (arith, at, some)

pub end_without-requires : goal.end_without-requires
end_without-requires c =
    let at = ap (λ (r : Reader). r.at) c.only_number.ensures.rest in
    let some = c.requires in
    omega (arith, at, some)

pub returns-in-Some-clause-stays : goal.returns-in-Some-clause-stays
returns-in-Some-clause-stays c = stays_two c.args.reader.now c.only_number.new.reader c.end_number.new.reader _ c.only_number.ensures.rest c.end_number.ensures.stays

pub returns-in-None-clause-stays : goal.returns-in-None-clause-stays
returns-in-None-clause-stays c = stays_two c.args.reader.now c.only_number.new.reader c.end_without.new.reader _ c.only_number.ensures.rest c.end_without.ensures.stays

pub returns-in-Some-clause-answers : goal.returns-in-Some-clause-answers
returns-in-Some-clause-answers c = λ s operands b.
    let x = only_some operands c.in-Some.number c.only_number.new.reader.walk (c.in-Some.ensures.is operands b.walk) in
    rw x.0 (c.end_number.ensures.answers s (still_behind _ c.args.last c.args.reader.now c.only_number.new.reader s operands _ b c.only_number.ensures.rest x.1))

pub returns-in-None-clause-answers : goal.returns-in-None-clause-answers
returns-in-None-clause-answers c = λ s operands b.
    let x = only_none operands c.only_number.new.reader.walk (c.in-None.ensures.is operands b.walk) in
    let on = still_behind _ c.args.last c.args.reader.now c.only_number.new.reader s operands x.left b c.only_number.ensures.rest x.walk in
    c.end_without.ensures.answers s operands x.left x.none (record { texts_are = refl; last_is = on.last_is; walk = on.walk; at = on.at })
