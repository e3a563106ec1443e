use Rattle.std.proofs.lemmas.Result.{err_from_is_err_and}
use Rattle.name_judge.proofs.OnLocals.Steps.{judged_front, judged_rest}
use Rattle.name_judge.proofs.locals.operands.check_operand.Goals as goal

pub returns-in_err-check_type : goal.returns-in_err-check_type
returns-in_err-check_type c =
    let p = err_from_is_err_and c.from_residual.result c.from_residual.ensures.1 in
    rw (p.1, p.2) (judged_front _ _ _ c.in_err-check_type.ensures)

pub returns : goal.returns
returns c = judged_rest _ _ _ c.in_ok-check_type.ensures c.check_value.ensures
