use Rattle.std.proofs.Common.{ap, flat_map}
use Rattle.module_arena.specs.Lists.{value_names}
use Rattle.record_write.specs.Order.Bodies.{local_text, block_texts}
use Rattle.record_write.proofs.OnOrder.Gaining.{gains_same, gains_end, gains_as}
use Rattle.record_write.proofs.OnOrder.TextsOf.{body_some}
use Rattle.record_write.proofs.order.gathered.add_body.Goals as goal

pub returns-in_ok-add_parameters-in-Some : goal.returns-in_ok-add_parameters-in-Some
returns-in_ok-add_parameters-in-Some c =
    gains_as c.args.table.now c.add_blocks.new.table _ _ c.add_blocks.result (body_some c.args.function.now c.in-Some.body c.in-Some.is)
    (gains_end c.add_blocks.new.table _ _ c.add_blocks.result (gains_same (ap (flat_map (λ p. local_text p.name)) c.as_slice.ensures) c.in_ok-add_parameters-in-Some.ensures)
    (ap (flat_map (block_texts (value_names c.args.function.now))) c.as_slice-in-Some.ensures) c.add_blocks.ensures)
