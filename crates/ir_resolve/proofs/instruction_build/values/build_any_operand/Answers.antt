use Rattle.ir_phrases.specs.Constants.View.{type_view, value_view}
use Rattle.name_rules.specs.Written.{type_in}
use Rattle.item_build.proofs.OnTypes.Growing.{grows_on}
use Rattle.item_build.proofs.OnTypes.Staying.{can_still_be}
use Rattle.ir_resolve.proofs.OnInstructionBuild.Taking.{takes_value}
use Rattle.ir_resolve.proofs.instruction_build.values.build_any_operand.Goals as goal

pub build_value-requires-clause-ty : goal.build_value-requires-clause-ty
build_value-requires-clause-ty c = can_still_be _ _ c.in_ok-ty.ensures.grows (type_in (type_view c.args.written.now.ty)) c.requires.can.0

pub build_value-requires-clause-can : goal.build_value-requires-clause-can
build_value-requires-clause-can c = takes_value _ _ c.in_ok-ty.ensures.grows c.args.locals.now (value_view c.args.written.now.value) c.requires.can.1

pub returns-clause-grows : goal.returns-clause-grows
returns-clause-grows c = grows_on _ _ _ c.in_ok-ty.ensures.grows c.in_ok-value.ensures.grows

pub returns-clause-is : goal.returns-clause-is
returns-clause-is c = record { ty = c.in_ok-value.ensures.grows.types _ _ c.in_ok-ty.ensures.is; value = c.in_ok-value.ensures.is }
