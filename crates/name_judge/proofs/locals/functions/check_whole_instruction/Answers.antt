use Rattle.std.proofs.lemmas.Result.{err_from_is_err_and}
use Rattle.ir_phrases.specs.Instructions.View.{operation_view, instruction_view}
use Rattle.name_rules.specs.FunctionDemands.{call_demands, called_after, operation_demands}
use Rattle.name_rules.specs.Locals.{announced_result}
use Rattle.type_judge.specs.Gathered.{known_of}
use Rattle.name_judge.specs.Locals.Names.{locals_of}
use Rattle.name_judge.proofs.OnLocals.Steps.{goes_front, goes_then}
use Rattle.name_judge.proofs.locals.functions.check_whole_instruction.Goals as goal

pub returns-in_err-check_result : goal.returns-in_err-check_result
returns-in_err-check_result c =
    let p = err_from_is_err_and c.from_residual.result c.from_residual.ensures.1 in
    let instruction = c.args.instruction.now in
    rw (p.1, p.2)
    (goes_front _ _ _ (λ b. call_demands b instruction.result) (λ b. operation_demands (known_of c.args.known.now) (locals_of c.args.locals.now) (operation_view instruction.operation)) _ _ _ c.in_err-check_result.ensures)

pub returns : goal.returns
returns c =
    let instruction = c.args.instruction.now in
    goes_then _ _ (λ b. call_demands b instruction.result) (operation_demands (known_of c.args.known.now) (locals_of c.args.locals.now) (operation_view instruction.operation)) (λ b. called_after b (announced_result (instruction_view instruction))) _
    c.in_ok-check_result.ensures c.check_operation.ensures
