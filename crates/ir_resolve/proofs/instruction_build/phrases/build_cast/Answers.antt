use Rattle.ir_phrases.specs.Constants.View.{type_view}
use Rattle.name_rules.specs.Written.{type_in}
use Rattle.item_build.proofs.OnTypes.Growing.{grows_on}
use Rattle.item_build.proofs.OnTypes.Staying.{can_still_be}
use Rattle.ir_resolve.specs.InstructionBuild.Parts.{value_names, block_names}
use Rattle.ir_resolve.proofs.OnInstructionBuild.Standing.{operand_stays}
use Rattle.ir_resolve.proofs.OnInstructionBuild.Assembled.{makes_convert}
use Rattle.ir_resolve.proofs.instruction_build.phrases.build_cast.Goals as goal

pub add_type-requires : goal.add_type-requires
add_type-requires c = can_still_be _ _ c.in_ok-operand.ensures.grows (type_in (type_view c.args.conversion.now.to)) c.requires.can.1

pub returns-clause-grows : goal.returns-clause-grows
returns-clause-grows c = grows_on _ _ _ c.in_ok-operand.ensures.grows c.in_ok-to.ensures.grows

pub returns-clause-is : goal.returns-clause-is
returns-clause-is c =
    let values = value_names c.args.locals.now in
    let blocks = block_names c.args.locals.now in
    makes_convert values blocks c.add_type.new.self.arena c.args.next c.args.opcode c.args.flags c.in_ok-operand.operand _ c.in_ok-to.to _
    (operand_stays values blocks _ _ c.in_ok-to.ensures.grows _ _ c.in_ok-operand.ensures.is) c.in_ok-to.ensures.is
