use Rattle.std.proofs.Common.{map, take}
use Rattle.ir_phrases.specs.Constants.View.{typed_value_view}
use Rattle.name_rules.specs.Written.{operand_in}
use Rattle.item_build.specs.Types.Stands.{Grows}
use Rattle.ir_resolve.specs.InstructionBuild.Meant.{IsOperand}
use Rattle.ir_resolve.specs.InstructionBuild.Parts.{value_names, block_names, Each}
use Rattle.ir_resolve.proofs.instruction_build.values.build_operands.Given as goal

abbrev pub invariant-loop-one : goal.invariant-loop-one
invariant-loop-one l = record {
  grows : Grows l.fn.builder.arena l.builder.arena;
  so_far : Each (IsOperand (value_names l.locals) (block_names l.locals) l.builder.arena) l.operands.items (map operand_in (map typed_value_view (take l.one-index l.written)));
}
