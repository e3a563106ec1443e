use Rattle.std.proofs.Common.{◌≡◌, ◌+◌, map, flat_map, take}
use Rattle.std.specs.List.{sum_by}
use Rattle.ir_phrases.specs.Instructions.View.{block_view}
use Rattle.module_arena.specs.Known.{upto}
use Rattle.module_arena.specs.Mentions.{block_results}
use Rattle.item_build.specs.Types.Stands.{Grows}
use Rattle.ir_resolve.specs.InstructionBuild.Named.{called_of}
use Rattle.ir_resolve.specs.Built.{block_results_count, blocks_built, AreBlocks}
use Rattle.ir_resolve.proofs.blocks.build_blocks.Given as goal

abbrev pub invariant-loop-block : goal.invariant-loop-block
invariant-loop-block l = record {
  grows : Grows l.fn.builder.arena l.builder.arena;
  so_far : AreBlocks (called_of l.locals.values.names.items) (called_of l.locals.blocks.names.items) l.builder.arena l.list.items
      (blocks_built (called_of l.locals.values.names.items) (called_of l.locals.blocks.names.items) 0 l.fn.first (map block_view (take l.block-index l.written)));
  in_order : flat_map block_results l.list.items ≡ upto l.fn.first (sum_by block_results_count (map block_view (take l.block-index l.written)));
  next : l.next ≡ l.fn.first + sum_by block_results_count (map block_view (take l.block-index l.written));
  id : l.id ≡ l.block-index;
}
