use Rattle.std.proofs.Common.{false}
use Rattle.ir_phrases.specs.Constants.View.{type_view}
use Rattle.name_rules.specs.FunctionDemands.{call_demands, called_with}
use Rattle.name_rules.specs.TypeDemands.{type_demands}
use Rattle.name_judge.proofs.OnLocals.Steps.{goes_behind}
use Rattle.name_judge.proofs.locals.functions.parameter_passes.Goals as goal

pub returns-clause-called : goal.returns-clause-called
returns-clause-called c known e =
    let parameter = c.args.parameter.now in
    goes_behind _ _ (type_demands known (type_view parameter.ty)) (λ b. call_demands b parameter.name) (λ b. called_with b (false, parameter.name)) _
    (c.type_passes.ensures known c.if-not-type_passes.false) (c.call_in_turn.ensures.called e)
