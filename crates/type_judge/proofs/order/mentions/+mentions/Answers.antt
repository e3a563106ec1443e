use Rattle.std.proofs.Common.{arith}
use Rattle.type_judge.proofs.OnOrder.Gathered.{mentions_next}
use Rattle.type_judge.proofs.order.mentions.+mentions.Goals as goal

pub add_types-fields-preserved : goal.add_types-fields-preserved
add_types-fields-preserved t c =
    mentions_next c.args.numbers.now c.args.fields.now c.fields.field-index c.field-item.result c.fields.found.items c.add_type.new.found.items _ (omega arith) c.field-item.is c.in_ok-add_type.ensures c.fields.invariant
