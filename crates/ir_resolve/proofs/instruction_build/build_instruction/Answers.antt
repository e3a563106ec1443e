use Rattle.std.proofs.Common.{ap, ◌∙◌}
use Rattle.ir_phrases.specs.Instructions.View.{instruction_view}
use Rattle.name_rules.specs.Bodies.{operation_in}
use Rattle.name_rules.specs.Locals.{has_result}
use Rattle.ir_resolve.specs.InstructionBuild.Parts.{value_names, block_names}
use Rattle.ir_resolve.specs.InstructionBuild.Made.{defined_by}
use Rattle.ir_resolve.proofs.OnInstructionBuild.Written.{as_written, made_is, made_gives}
use Rattle.ir_resolve.proofs.instruction_build.build_instruction.Goals as goal

pub returns-clause-is : goal.returns-clause-is
returns-clause-is c =
    let w = instruction_view c.args.written.now in
    let same = ap (λ b. defined_by b c.args.next w.operation) c.gives_result-has_result.ensures ∙ as_written c.args.next w.result w.operation c.requires.can.1 in
    made_is (value_names c.args.locals.now) (block_names c.args.locals.now) c.build_operation.new.builder.arena c.args.next (operation_in w.operation) (has_result w) _ same c.build_operation.result c.build_operation.ensures.is

pub returns-clause-gives : goal.returns-clause-gives
returns-clause-gives c =
    let w = instruction_view c.args.written.now in
    let same = ap (λ b. defined_by b c.args.next w.operation) c.gives_result-has_result.ensures ∙ as_written c.args.next w.result w.operation c.requires.can.1 in
    made_gives (value_names c.args.locals.now) (block_names c.args.locals.now) c.build_operation.new.builder.arena c.args.next (operation_in w.operation) (has_result w) _ same c.build_operation.result c.build_operation.ensures.is
