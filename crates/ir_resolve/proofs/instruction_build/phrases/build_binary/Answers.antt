use Rattle.ir_resolve.specs.InstructionBuild.Parts.{value_names, block_names}
use Rattle.ir_resolve.proofs.OnInstructionBuild.Assembled.{makes_binary}
use Rattle.ir_resolve.proofs.instruction_build.phrases.build_binary.Goals as goal

pub returns-clause-is : goal.returns-clause-is
returns-clause-is c =
    makes_binary (value_names c.args.locals.now) (block_names c.args.locals.now) c.build_sides.new.builder.arena c.args.next c.args.opcode c.args.flags
    c.in_ok-sides.sides.left _ c.in_ok-sides.sides.right _ c.in_ok-sides.ensures.left c.in_ok-sides.ensures.right
