use Rattle.std.proofs.Common.{subst, List, map}
use Rattle.std.specs.Prelude.{flat_map}
use Rattle.std.proofs.lemmas.Result.{err_from_is_err_and}
use Rattle.ir_phrases.specs.declared.instructions.block.WrittenCase.{WrittenCase}
use Rattle.ir_phrases.specs.Instructions.View.{case_view}
use Rattle.name_rules.specs.FunctionDemands.{case_demands}
use Rattle.type_judge.specs.Gathered.{known_of}
use Rattle.type_judge.specs.Judging.{IsJudged}
use Rattle.name_judge.specs.Locals.Names.{locals_of}
use Rattle.name_judge.proofs.OnLocals.Steps.{judged_front, judged_next, judged_rest, judged_stop}
use Rattle.name_judge.proofs.locals.endings.check_switch.Goals as goal

pub returns-in_err-check_operand : goal.returns-in_err-check_operand
returns-in_err-check_operand c =
    let p = err_from_is_err_and c.from_residual.result c.from_residual.ensures.1 in
    rw (p.1, p.2) (judged_front _ _ _ c.in_err-check_operand.ensures)

pub returns-in_err-check_local : goal.returns-in_err-check_local
returns-in_err-check_local c =
    let p = err_from_is_err_and c.from_residual-in_err-check_local.result
    c.from_residual-in_err-check_local.ensures.1 in
    rw (p.1, p.2) (judged_rest _ _ _ c.in_ok-check_operand.ensures
    (judged_stop _ _ _ c.in_err-check_local.ensures))

pub returns : goal.returns
returns c =
    let rest = subst (λ (xs : List WrittenCase). IsJudged
    (flat_map (case_demands (known_of c.args.known.now) (locals_of c.args.locals.now))
    (map case_view xs)) c.check_cases.result) c.deref.ensures.value c.check_cases.ensures in
    judged_rest _ _ _ c.in_ok-check_operand.ensures (judged_next _ _ _ c.in_ok-check_local.ensures
    rest)
