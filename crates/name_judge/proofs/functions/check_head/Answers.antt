use Rattle.std.proofs.Common.{subst, Option}
use Rattle.std.proofs.lemmas.Result.{err_from_is_err_and}
use Rattle.ir_base.specs.declared.place.Place.{Place}
use Rattle.name_rules.specs.Demand.{is_first}
use Rattle.type_judge.specs.Judging.{IsJudged}
use Rattle.type_judge.proofs.Parts.{judged_front, judged_rest}
use Rattle.name_judge.proofs.functions.check_head.Goals as goal

pub returns-in_err-check_type : goal.returns-in_err-check_type
returns-in_err-check_type c before same =
    let p = err_from_is_err_and c.from_residual.result c.from_residual.ensures.1 in
    rw (p.1, p.2) (judged_front _ _ _ c.in_err-check_type.ensures)

pub returns : goal.returns
returns c before same =
    judged_rest _ _ _ c.in_ok-check_type.ensures
    (subst (λ (earlier : Option Place). IsJudged (is_first c.args.head.now.name.place earlier)
    c.check_apart.result) same c.check_apart.ensures)
