use Rattle.std.proofs.Common.{subst, List}
use Rattle.std.proofs.lemmas.Result.{err_from_is_err_and}
use Rattle.ir_terminals.specs.declared.values.Integer.{Integer}
use Rattle.name_rules.specs.FunctionDemands.{index_demands}
use Rattle.type_judge.specs.Judging.{IsJudged}
use Rattle.name_judge.proofs.OnLocals.Steps.{judged_front, judged_rest}
use Rattle.name_judge.proofs.locals.operations.check_insertion.Goals as goal

pub returns-in_err-check_operand : goal.returns-in_err-check_operand
returns-in_err-check_operand c =
    let p = err_from_is_err_and c.from_residual.result c.from_residual.ensures.1 in
    rw (p.1, p.2) (judged_front _ _ _ c.in_err-check_operand.ensures)

pub returns-in_err-check_operand-2 : goal.returns-in_err-check_operand-2
returns-in_err-check_operand-2 c =
    let p = err_from_is_err_and c.from_residual-in_err-check_operand-2.result
    c.from_residual-in_err-check_operand-2.ensures.1 in
    rw (p.1, p.2) (judged_rest _ _ _ c.in_ok-check_operand.ensures
    (judged_front _ _ _ c.in_err-check_operand-2.ensures))

pub returns : goal.returns
returns c =
    let rest = subst (λ (xs : List Integer). IsJudged (index_demands xs) c.check_indices.result)
    c.deref.ensures.value c.check_indices.ensures in
    judged_rest _ _ _ c.in_ok-check_operand.ensures (judged_rest _ _ _
    c.in_ok-check_operand-2.ensures rest)
