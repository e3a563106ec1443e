use Rattle.std.proofs.lemmas.Result.{err_from_is_err_and}
use Rattle.name_judge.proofs.OnLocals.Steps.{judged_front, judged_rest}
use Rattle.name_judge.proofs.locals.operations.check_pair.Goals as goal

pub returns-in_err-check_operand : goal.returns-in_err-check_operand
returns-in_err-check_operand c =
    let p = err_from_is_err_and c.from_residual.result c.from_residual.ensures.1 in
    rw (p.1, p.2) (judged_front _ _ _ c.in_err-check_operand.ensures)

pub returns : goal.returns
returns c = judged_rest _ _ _ c.in_ok-check_operand.ensures c.check_value.ensures
