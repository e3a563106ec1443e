use Rattle.ir_phrases.specs.Constants.View.{type_view, value_view}
use Rattle.name_rules.specs.Written.{type_in}
use Rattle.item_build.proofs.OnTypes.Growing.{grows_on}
use Rattle.item_build.proofs.OnTypes.Staying.{can_still_be}
use Rattle.ir_resolve.specs.InstructionBuild.Parts.{value_names, block_names}
use Rattle.ir_resolve.proofs.OnInstructionBuild.Standing.{operand_stays}
use Rattle.ir_resolve.proofs.OnInstructionBuild.Taking.{takes_value}
use Rattle.ir_resolve.proofs.instruction_build.phrases.build_sides.Goals as goal

pub build_value-requires-clause-ty : goal.build_value-requires-clause-ty
build_value-requires-clause-ty c = can_still_be _ _ c.in_ok-left.ensures.grows (type_in (type_view c.args.operands.now.left.ty)) c.requires.left.0

pub build_value-requires-clause-can : goal.build_value-requires-clause-can
build_value-requires-clause-can c = takes_value _ _ c.in_ok-left.ensures.grows c.args.locals.now (value_view c.args.operands.now.right) c.requires.right

pub returns-clause-grows : goal.returns-clause-grows
returns-clause-grows c = grows_on _ _ _ c.in_ok-left.ensures.grows c.in_ok-right.ensures.grows

pub returns-clause-left : goal.returns-clause-left
returns-clause-left c = operand_stays (value_names c.args.locals.now) (block_names c.args.locals.now) _ _ c.in_ok-right.ensures.grows _ _ c.in_ok-left.ensures.is
