use Rattle.ir_resolve.specs.InstructionBuild.Parts.{value_names, block_names}
use Rattle.ir_resolve.proofs.OnInstructionBuild.Ended.{ends_return}
use Rattle.ir_resolve.proofs.instruction_build.endings.build_return.Goals as goal

pub returns-clause-is : goal.returns-clause-is
returns-clause-is c = ends_return (value_names c.args.locals.now) (block_names c.args.locals.now) c.build_operand.new.builder.arena c.in_ok-operand.operand _ c.in_ok-operand.ensures.is
