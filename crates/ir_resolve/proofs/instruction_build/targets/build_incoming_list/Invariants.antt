use Rattle.std.proofs.Common.{map, take}
use Rattle.ir_phrases.specs.Constants.View.{type_view}
use Rattle.ir_phrases.specs.Instructions.View.{incoming_view}
use Rattle.name_rules.specs.Bodies.{incoming_in}
use Rattle.name_rules.specs.Written.{type_in}
use Rattle.item_build.specs.Types.Stands.{Grows}
use Rattle.ir_resolve.specs.InstructionBuild.Parts.{value_names, block_names, Each, IsIncoming}
use Rattle.ir_resolve.proofs.instruction_build.targets.build_incoming_list.Given as goal

abbrev pub invariant-loop-one : goal.invariant-loop-one
invariant-loop-one l = record {
  grows : Grows l.fn.builder.arena l.builder.arena;
  so_far : Each (IsIncoming (value_names l.locals) (block_names l.locals) l.builder.arena) l.incoming.items (map (incoming_in (type_in (type_view l.ty))) (map incoming_view (take l.one-index l.written)));
}
