use Rattle.std.proofs.Common.{subst}
use Rattle.ir_phrases.specs.Instructions.View.{instruction_view}
use Rattle.name_rules.specs.FunctionDemands.{called_after, instruction_demands}
use Rattle.name_rules.specs.Locals.{announced_result}
use Rattle.type_judge.specs.Gathered.{known_of}
use Rattle.name_judge.specs.declared.locals.called.CalledNames.{CalledNames}
use Rattle.name_judge.specs.Locals.Calling.{Goes}
use Rattle.name_judge.specs.Locals.Names.{locals_of}
use Rattle.name_judge.proofs.locals.functions.check_instruction.Goals as goal

pub returns-then-instruction_passes : goal.returns-then-instruction_passes
returns-then-instruction_passes c = c.instruction_passes.ensures.called c.if-instruction_passes.true

pub returns : goal.returns
returns c =
    let view = instruction_view c.args.instruction.now in
    subst (λ (old : CalledNames). Goes old c.check_whole_instruction.new.called (λ b. instruction_demands (known_of c.args.known.now) (locals_of c.args.locals.now) b view) (λ b. called_after b (announced_result view)) c.check_whole_instruction.result)
    (c.instruction_passes.ensures.same c.if-instruction_passes.false) c.check_whole_instruction.ensures
