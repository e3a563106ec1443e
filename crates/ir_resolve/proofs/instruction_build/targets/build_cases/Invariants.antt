use Rattle.std.proofs.Common.{map, take}
use Rattle.ir_phrases.specs.Instructions.View.{case_view}
use Rattle.name_rules.specs.Bodies.{case_in}
use Rattle.item_build.specs.Types.Stands.{Grows}
use Rattle.ir_resolve.specs.InstructionBuild.Parts.{block_names, Each, IsCase}
use Rattle.ir_resolve.proofs.instruction_build.targets.build_cases.Given as goal

abbrev pub invariant-loop-one : goal.invariant-loop-one
invariant-loop-one l = record {
  grows : Grows l.fn.builder.arena l.builder.arena;
  so_far : Each (IsCase (block_names l.locals) l.builder.arena) l.cases.items (map case_in (map case_view (take l.one-index l.written)));
}
