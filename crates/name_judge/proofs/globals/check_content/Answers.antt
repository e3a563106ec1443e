use Rattle.std.proofs.lemmas.Result.{err_from_is_err_and}
use Rattle.type_judge.proofs.Parts.{judged_front, judged_rest}
use Rattle.name_judge.proofs.globals.check_content.Goals as goal

pub returns-in_err-check_type : goal.returns-in_err-check_type
returns-in_err-check_type c =
    let p = err_from_is_err_and c.from_residual.result c.from_residual.ensures.1 in
    rw (p.1, p.2) (judged_front _ _ _ c.in_err-check_type.ensures)

pub returns-in_err-check_initialiser : goal.returns-in_err-check_initialiser
returns-in_err-check_initialiser c =
    let p = err_from_is_err_and c.from_residual-in_err-check_initialiser.result
    c.from_residual-in_err-check_initialiser.ensures.1 in
    rw (p.1, p.2) (judged_rest _ _ _ c.in_ok-check_type.ensures
    (judged_front _ _ _ c.in_err-check_initialiser.ensures))

pub returns : goal.returns
returns c = judged_rest _ _ _ c.in_ok-check_type.ensures
    (judged_rest _ _ _ c.in_ok-check_initialiser.ensures c.check_alignment.ensures)
