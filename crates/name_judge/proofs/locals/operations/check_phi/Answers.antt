use Rattle.std.proofs.Common.{subst, List, map}
use Rattle.std.specs.Prelude.{flat_map}
use Rattle.std.proofs.lemmas.Result.{err_from_is_err_and}
use Rattle.ir_phrases.specs.declared.instructions.operation.WrittenIncoming.{WrittenIncoming}
use Rattle.ir_phrases.specs.Constants.View.{type_view}
use Rattle.ir_phrases.specs.Instructions.View.{incoming_view}
use Rattle.name_rules.specs.FunctionDemands.{incoming_demands}
use Rattle.name_rules.specs.Written.{type_in}
use Rattle.type_judge.specs.Gathered.{known_of}
use Rattle.type_judge.specs.Judging.{IsJudged}
use Rattle.name_judge.specs.Locals.Names.{locals_of}
use Rattle.name_judge.proofs.OnLocals.Steps.{judged_front, judged_rest}
use Rattle.name_judge.proofs.locals.operations.check_phi.Goals as goal

pub returns-in_err-check_type : goal.returns-in_err-check_type
returns-in_err-check_type c =
    let p = err_from_is_err_and c.from_residual.result c.from_residual.ensures.1 in
    rw (p.1, p.2) (judged_front _ _ _ c.in_err-check_type.ensures)

pub returns : goal.returns
returns c =
    let rest = subst (λ (xs : List WrittenIncoming). IsJudged
    (flat_map (incoming_demands (known_of c.args.known.now) (locals_of c.args.locals.now)
    (type_in (type_view c.args.phi.now.ty))) (map incoming_view xs))
    c.check_incomings.result) c.deref.ensures.value c.check_incomings.ensures in
    judged_rest _ _ _ c.in_ok-check_type.ensures rest
