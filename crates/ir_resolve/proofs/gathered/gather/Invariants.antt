use Rattle.std.proofs.Common.{◌≡◌, ◌≤◌, ◌+◌, map, flat_map, length, take}
use Rattle.std.specs.List.{sum_by}
use Rattle.ir_phrases.specs.Instructions.View.{block_view}
use Rattle.ir_syntax.specs.Counts.{block_count}
use Rattle.ir_syntax.specs.View.{parameter_view}
use Rattle.module_arena.specs.View.{local_view}
use Rattle.name_rules.specs.Locals.{next_after, announced_parameter, announced_block}
use Rattle.item_build.specs.Buildable.Bodies.{values_of, labels_of}
use Rattle.ir_resolve.proofs.gathered.gather.Given as goal

abbrev pub invariant-loop-block : goal.invariant-loop-block
invariant-loop-block l = record {
  next : l.next ≡ next_after (next_after 0 (map announced_parameter (map parameter_view l.parameters))) (flat_map announced_block (map block_view (take l.block-index l.blocks)));
  values : map local_view l.locals.values.names.items ≡ values_of (map parameter_view l.parameters) (map block_view (take l.block-index l.blocks));
  labels : map local_view l.locals.blocks.names.items ≡ labels_of (map parameter_view l.parameters) (map block_view (take l.block-index l.blocks));
  numbers : l.next ≤ length l.parameters + sum_by block_count (map block_view (take l.block-index l.blocks));
  few_values : length l.locals.values.names.items ≤ length l.parameters + sum_by block_count (map block_view (take l.block-index l.blocks));
  few_labels : length l.locals.blocks.names.items ≤ sum_by block_count (map block_view (take l.block-index l.blocks));
}
