use Rattle.std.proofs.Common.{false}
use Rattle.std.proofs.lemmas.Result.{err_from_is_err_and}
use Rattle.ir_phrases.specs.Constants.View.{type_view}
use Rattle.name_rules.specs.FunctionDemands.{call_demands, called_with}
use Rattle.name_rules.specs.TypeDemands.{type_demands}
use Rattle.type_judge.specs.Gathered.{known_of}
use Rattle.name_judge.proofs.OnLocals.Steps.{goes_stop, goes_behind}
use Rattle.name_judge.proofs.locals.functions.check_whole_parameter.Goals as goal

pub returns-in_err-check_type : goal.returns-in_err-check_type
returns-in_err-check_type c =
    let p = err_from_is_err_and c.from_residual.result c.from_residual.ensures.1 in
    let parameter = c.args.parameter.now in
    rw (p.1, p.2)
    (goes_stop _ _ (type_demands (known_of c.args.known.now) (type_view parameter.ty)) (λ b. call_demands b parameter.name) _ _ c.in_err-check_type.ensures)

pub returns : goal.returns
returns c =
    let parameter = c.args.parameter.now in
    goes_behind _ _ (type_demands (known_of c.args.known.now) (type_view parameter.ty)) (λ b. call_demands b parameter.name) (λ b. called_with b (false, parameter.name)) _
    c.in_ok-check_type.ensures c.call.ensures
