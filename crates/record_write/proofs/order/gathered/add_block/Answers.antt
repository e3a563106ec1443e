use Rattle.std.proofs.Common.{ap, flat_map}
use Rattle.module_arena.specs.Lists.{value_names}
use Rattle.record_write.specs.Order.Bodies.{result_texts}
use Rattle.record_write.proofs.OnOrder.Gaining.{gains_end}
use Rattle.record_write.proofs.order.gathered.add_block.Goals as goal

pub returns : goal.returns
returns c = gains_end _ _ _ c.add_results.result c.in_ok-add_local.ensures (ap (flat_map (result_texts (value_names c.args.function.now))) c.as_slice.ensures) c.add_results.ensures
