use Rattle.std.proofs.lemmas.Result.{err_from_is_err_and}
use Rattle.type_judge.proofs.Parts.{judged_front, judged_rest}
use Rattle.name_judge.proofs.globals.check_meaning.Goals as goal

pub returns-in_err-check_alias_type : goal.returns-in_err-check_alias_type
returns-in_err-check_alias_type c =
    let p = err_from_is_err_and c.from_residual.result c.from_residual.ensures.1 in
    rw (p.1, p.2) (judged_front _ _ _ c.in_err-check_alias_type.ensures)

pub returns : goal.returns
returns c = judged_rest _ _ _ c.in_ok-check_alias_type.ensures c.check_global.ensures
