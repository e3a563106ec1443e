use Rattle.ir_resolve.specs.InstructionBuild.Parts.{value_names, block_names}
use Rattle.ir_resolve.proofs.OnInstructionBuild.Ended.{ends_branch}
use Rattle.ir_resolve.proofs.instruction_build.endings.build_branch.Goals as goal

pub returns-clause-is : goal.returns-clause-is
returns-clause-is c =
    ends_branch (value_names c.args.locals.now) (block_names c.args.locals.now) c.build_operand.new.builder.arena c.in_ok-condition.condition _ c.find_block-then_to.result _ c.find_block-else_to.result _
    c.in_ok-condition.ensures.is c.find_block-then_to.ensures c.find_block-else_to.ensures
