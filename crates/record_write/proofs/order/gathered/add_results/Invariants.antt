use Rattle.std.proofs.Common.{flat_map, take}
use Rattle.module_arena.specs.Lists.{value_names}
use Rattle.record_write.specs.Order.Bodies.{result_texts}
use Rattle.record_write.specs.Order.Table.{Gains}
use Rattle.record_write.proofs.order.gathered.add_results.Given as goal

abbrev pub invariant-loop-instruction : goal.invariant-loop-instruction
invariant-loop-instruction l = Gains l.fn.table l.table (flat_map (result_texts (value_names l.function)) (take l.instruction-index l.instructions))
