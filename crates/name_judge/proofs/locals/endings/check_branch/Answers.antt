use Rattle.std.proofs.lemmas.Result.{err_from_is_err_and}
use Rattle.name_judge.proofs.OnLocals.Steps.{judged_front, judged_next, judged_rest, judged_stop}
use Rattle.name_judge.proofs.locals.endings.check_branch.Goals as goal

pub returns-in_err-check_operand : goal.returns-in_err-check_operand
returns-in_err-check_operand c =
    let p = err_from_is_err_and c.from_residual.result c.from_residual.ensures.1 in
    rw (p.1, p.2) (judged_front _ _ _ c.in_err-check_operand.ensures)

pub returns-in_err-check_local : goal.returns-in_err-check_local
returns-in_err-check_local c =
    let p = err_from_is_err_and c.from_residual-in_err-check_local.result
    c.from_residual-in_err-check_local.ensures.1 in
    rw (p.1, p.2) (judged_rest _ _ _ c.in_ok-check_operand.ensures
    (judged_stop _ _ _ c.in_err-check_local.ensures))

pub returns : goal.returns
returns c = judged_rest _ _ _ c.in_ok-check_operand.ensures
    (judged_next _ _ _ c.in_ok-check_local.ensures c.check_local-2.ensures)
