use Rattle.ir_resolve.specs.InstructionBuild.Parts.{value_names, block_names}
use Rattle.ir_resolve.proofs.OnInstructionBuild.Assembled.{makes_freeze}
use Rattle.ir_resolve.proofs.instruction_build.phrases.build_freeze.Goals as goal

pub returns-clause-is : goal.returns-clause-is
returns-clause-is c = makes_freeze (value_names c.args.locals.now) (block_names c.args.locals.now) c.build_operand.new.builder.arena c.args.next c.in_ok-operand.operand _ c.in_ok-operand.ensures.is
