use Rattle.std.proofs.Common.{◌≡◌, ◌≤◌, ◌+◌, map, flat_map, take}
use Rattle.std.specs.List.{sum_by}
use Rattle.ir_phrases.specs.Instructions.View.{instruction_view}
use Rattle.module_arena.specs.Known.{upto}
use Rattle.module_arena.specs.Mentions.{result_of}
use Rattle.item_build.specs.Types.Stands.{Grows}
use Rattle.ir_resolve.specs.InstructionBuild.Named.{called_of}
use Rattle.ir_resolve.specs.Built.{result_count, instructions_built, AreInsts}
use Rattle.ir_resolve.proofs.instructions.build_instructions.Given as goal

abbrev pub invariant-loop-instruction : goal.invariant-loop-instruction
invariant-loop-instruction l = record {
  grows : Grows l.fn.builder.arena l.builder.arena;
  so_far : AreInsts (called_of l.locals.values.names.items) (called_of l.locals.blocks.names.items) l.builder.arena l.list.items
      (instructions_built (called_of l.locals.values.names.items) l.fn.first (map instruction_view (take l.instruction-index l.written)));
  in_order : flat_map result_of l.list.items ≡ upto l.fn.first (sum_by result_count (map instruction_view (take l.instruction-index l.written)));
  next : l.next ≡ l.fn.first + sum_by result_count (map instruction_view (take l.instruction-index l.written));
  bound : l.next ≤ l.fn.first + l.instruction-index;
}
