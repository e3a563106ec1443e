use Rattle.std.proofs.Common.{subst, Option, Ok, Err}
use Rattle.std.proofs.lemmas.Result.{err_from_is_err_and}
use Rattle.ir_base.specs.declared.place.Place.{Place}
use Rattle.name_rules.specs.Demand.{is_first}
use Rattle.type_judge.specs.Judging.{IsJudged}
use Rattle.type_judge.proofs.Parts.{judged_front, judged_rest}
use Rattle.name_judge.proofs.globals.check_variable.Goals as goal

pub returns-in_err-check_apart : goal.returns-in_err-check_apart
returns-in_err-check_apart c before same =
    let p = err_from_is_err_and c.from_residual.result c.from_residual.ensures.1 in
    let apart = subst (λ (earlier : Option Place). IsJudged
    (is_first c.args.variable.now.name.place earlier) (Err c.in_err-check_apart.field-0.0)) same
    c.in_err-check_apart.ensures in
    rw (p.1, p.2) (judged_front _ _ _ apart)

pub returns : goal.returns
returns c before same =
    judged_rest _ _ _ (subst (λ (earlier : Option Place). IsJudged
    (is_first c.args.variable.now.name.place earlier) (Ok tt)) same c.in_ok-check_apart.ensures)
    c.check_content.ensures
