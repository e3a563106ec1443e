use Rattle.ir_phrases.specs.Instructions.View.{operation_view, instruction_view}
use Rattle.name_rules.specs.FunctionDemands.{call_demands, called_after, operation_demands}
use Rattle.name_rules.specs.Locals.{announced_result}
use Rattle.type_judge.specs.Gathered.{known_of}
use Rattle.name_judge.specs.Locals.Names.{locals_of}
use Rattle.name_judge.proofs.OnLocals.Steps.{goes_then}
use Rattle.name_judge.proofs.locals.functions.instruction_passes.Goals as goal

pub returns-clause-called : goal.returns-clause-called
returns-clause-called c e =
    let instruction = c.args.instruction.now in
    goes_then _ _ (λ b. call_demands b instruction.result) (operation_demands (known_of c.args.known.now) (locals_of c.args.locals.now) (operation_view instruction.operation)) (λ b. called_after b (announced_result (instruction_view instruction))) _
    (c.result_passes.ensures.called e) (c.operation_passes.ensures c.if-not-operation_passes.false)
