use Rattle.std.proofs.lemmas.Result.{err_from_is_err_and}
use Rattle.type_judge.proofs.Parts.{judged_front, judged_rest}
use Rattle.name_judge.proofs.structs.check_struct.Goals as goal

pub returns-in_err-check_new-clause-judged : goal.returns-in_err-check_new-clause-judged
returns-in_err-check_new-clause-judged c before are =
    let p = err_from_is_err_and c.from_residual.result c.from_residual.ensures.1 in
    rw (p.1, p.2) (judged_front _ _ _ (c.in_err-check_new.ensures.judged before are))

pub returns-clause-judged : goal.returns-clause-judged
returns-clause-judged c before are =
    judged_rest _ _ _ (c.in_ok-check_new.ensures.judged before are) c.check_body.ensures
