use Rattle.std.proofs.Common.{ap, arith, ◌∙◌}
use Rattle.record_read.specs.Reader.{Reader}
use Rattle.record_read.specs.Order.Order.{place_of}
use Rattle.record_read.proofs.OnOrder.Recorded.{part_ended}
use Rattle.record_read.proofs.order.part.end_part.Goals as goal

pub finish-requires : goal.finish-requires
finish-requires c =
    let also_at = ap (λ (r : Reader). r.at) c.also.ensures in
    let some = c.requires in
    omega (arith, also_at, some)

pub returns-clause-stays : goal.returns-clause-stays
returns-clause-stays c = record {
  spent = c.finish.ensures.spent ∙ ap (λ (r : Reader). r.spent) c.also.ensures;
  left = c.finish.ensures.left ∙ ap (λ (r : Reader). r.left) c.also.ensures;
  at = c.finish.ensures.at ∙ ap (λ (r : Reader). r.at) c.also.ensures;
}

pub returns-clause-answers : goal.returns-clause-answers
returns-clause-answers c = λ s after broken same at is.
    part_ended s after c.args.reader.now _ c.may_follow.result c.args.last (place_of c.args.part) broken c.finish.result same at is c.may_follow.ensures c.also.ensures c.finish.ensures.told
