use Rattle.std.proofs.Common.{subst, List, map}
use Rattle.std.specs.Prelude.{flat_map}
use Rattle.std.proofs.lemmas.Result.{err_from_is_err_and}
use Rattle.ir_syntax.specs.declared.item.WrittenParameter.{WrittenParameter}
use Rattle.ir_syntax.specs.Functions.{parameter_types}
use Rattle.ir_syntax.specs.View.{parameter_view}
use Rattle.name_rules.specs.TypeDemands.{type_demands}
use Rattle.type_judge.specs.Gathered.{known_of}
use Rattle.type_judge.specs.Judging.{IsJudged}
use Rattle.type_judge.proofs.Parts.{judged_front, judged_rest}
use Rattle.name_judge.proofs.functions.check_declaration.Goals as goal

pub returns-in_err-check_head : goal.returns-in_err-check_head
returns-in_err-check_head c before same =
    let p = err_from_is_err_and c.from_residual.result c.from_residual.ensures.1 in
    rw (p.1, p.2) (judged_front _ _ _ (c.in_err-check_head.ensures before same))

pub returns : goal.returns
returns c before same =
    let known = known_of c.args.known.now in
    judged_rest _ _ _ (c.in_ok-check_head.ensures before same)
    (subst (λ (parameters : List WrittenParameter). IsJudged
    (flat_map (type_demands known) (parameter_types (map parameter_view parameters)))
    c.check_parameter_types.result) c.deref.ensures.value c.check_parameter_types.ensures)
