use Rattle.std.proofs.Common.{Some, ap, arith}
use Rattle.record_read.specs.Reader.{Reader}
use Rattle.record_read.proofs.OnOrder.Numbered.{also_at, without_number, without_told}
use Rattle.record_read.proofs.OnOrder.Recorded.{stays_two}
use Rattle.record_read.proofs.order.version.end_without.Goals as goal

pub end_part-requires : goal.end_part-requires
end_part-requires c =
    let at = ap (λ (r : Reader). r.at) c.also.ensures in
    let some = c.requires in
    omega (arith, at, some)

pub returns-clause-stays : goal.returns-clause-stays
returns-clause-stays c = stays_two c.args.reader.now _ _ _ c.also.ensures c.end_part.ensures.stays

pub returns-clause-answers : goal.returns-clause-answers
returns-clause-answers c = λ s operands left none b.
    rw (without_number s operands none)
    (c.end_part.ensures.answers s s (Some 1) b.last_is (also_at s c.args.reader.now _ _ c.also.ensures b.at) (without_told s s.texts c.args.last left c.args.reader.now _ b c.also.ensures))
