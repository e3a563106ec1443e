use Rattle.std.proofs.Common.{subst, List, map}
use Rattle.std.specs.Prelude.{flat_map}
use Rattle.std.proofs.lemmas.Result.{err_from_is_err_and}
use Rattle.ir_phrases.specs.declared.constants.value.TypedValue.{TypedValue}
use Rattle.ir_phrases.specs.Constants.View.{typed_value_view}
use Rattle.name_rules.specs.FunctionDemands.{operand_demands}
use Rattle.type_judge.specs.Gathered.{known_of}
use Rattle.type_judge.specs.Judging.{IsJudged}
use Rattle.name_judge.specs.Locals.Names.{locals_of}
use Rattle.name_judge.proofs.OnLocals.Steps.{judged_front, judged_rest}
use Rattle.name_judge.proofs.locals.operations.check_address.Goals as goal

pub returns-in_err-check_type : goal.returns-in_err-check_type
returns-in_err-check_type c =
    let p = err_from_is_err_and c.from_residual.result c.from_residual.ensures.1 in
    rw (p.1, p.2) (judged_front _ _ _ c.in_err-check_type.ensures)

pub returns : goal.returns
returns c =
    let rest = subst (λ (xs : List TypedValue). IsJudged
    (flat_map (operand_demands (known_of c.args.known.now) (locals_of c.args.locals.now))
    (map typed_value_view xs)) c.check_operands.result) c.deref.ensures.value
    c.check_operands.ensures in
    judged_rest _ _ _ c.in_ok-check_type.ensures rest
