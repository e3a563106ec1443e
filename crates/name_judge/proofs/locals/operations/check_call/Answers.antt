use Rattle.std.proofs.Common.{subst, List, map}
use Rattle.std.specs.Prelude.{flat_map}
use Rattle.std.proofs.lemmas.Result.{err_from_is_err_and}
use Rattle.ir_phrases.specs.declared.constants.value.TypedValue.{TypedValue}
use Rattle.ir_phrases.specs.Constants.View.{typed_value_view}
use Rattle.name_rules.specs.FunctionDemands.{operand_demands}
use Rattle.type_judge.specs.Gathered.{known_of}
use Rattle.type_judge.specs.Judging.{IsJudged}
use Rattle.name_judge.specs.Locals.Names.{locals_of}
use Rattle.name_judge.proofs.OnLocals.Steps.{judged_front, judged_rest}
use Rattle.name_judge.proofs.locals.operations.check_call.Goals as goal

pub returns-in_err-check_signature : goal.returns-in_err-check_signature
returns-in_err-check_signature c =
    let all = locals_of c.args.locals.now in
    let p = err_from_is_err_and c.from_residual-in_err-check_signature.result c.from_residual-in_err-check_signature.ensures.1 in
    rw (p.1, p.2) (judged_rest _ _ _ c.in_ok-check_type.ensures (judged_front _ _ _ (c.in_err-check_signature.ensures all)))

pub returns-in_err-check_callee : goal.returns-in_err-check_callee
returns-in_err-check_callee c =
    let all = locals_of c.args.locals.now in
    let p = err_from_is_err_and c.from_residual-in_err-check_callee.result c.from_residual-in_err-check_callee.ensures.1 in
    rw (p.1, p.2) (judged_rest _ _ _ c.in_ok-check_type.ensures (judged_rest _ _ _ (c.in_ok-check_signature.ensures all) (judged_front _ _ _ c.in_err-check_callee.ensures)))

pub returns : goal.returns
returns c =
    let all = locals_of c.args.locals.now in
    let operands = subst (λ (os : List TypedValue). IsJudged (flat_map (operand_demands (known_of c.args.known.now) all) (map typed_value_view os)) c.check_operands.result) c.deref.ensures.value c.check_operands.ensures in
    judged_rest _ _ _ c.in_ok-check_type.ensures (judged_rest _ _ _ (c.in_ok-check_signature.ensures all) (judged_rest _ _ _ c.in_ok-check_callee.ensures operands))
