use Rattle.std.proofs.Common.{subst, List, map}
use Rattle.std.proofs.lemmas.Result.{err_from_is_err_and}
use Rattle.ir_phrases.specs.declared.instructions.block.WrittenBlock.{WrittenBlock}
use Rattle.ir_phrases.specs.Instructions.View.{block_view}
use Rattle.ir_syntax.specs.declared.item.WrittenParameter.{WrittenParameter}
use Rattle.ir_syntax.specs.View.{parameter_view}
use Rattle.name_rules.specs.FunctionDemands.{definition_demands}
use Rattle.type_judge.specs.Gathered.{known_of}
use Rattle.type_judge.specs.Judging.{IsJudged}
use Rattle.type_judge.proofs.Parts.{judged_front, judged_rest}
use Rattle.name_judge.proofs.functions.check_function.Goals as goal

pub returns-in_err-check_head : goal.returns-in_err-check_head
returns-in_err-check_head c before same =
    let p = err_from_is_err_and c.from_residual.result c.from_residual.ensures.1 in
    rw (p.1, p.2) (judged_front _ _ _ (c.in_err-check_head.ensures before same))

pub returns : goal.returns
returns c before same =
    let known = known_of c.args.known.now in
    let r = c.check_definition.result in
    let blocks = map block_view c.deref-2.result.now in
    let written = c.args.definition.now.parameters.items in
    judged_rest _ _ _ (c.in_ok-check_head.ensures before same)
    (subst (λ (blocks : List WrittenBlock).
    IsJudged (definition_demands known (map parameter_view written) (map block_view blocks)) r)
    c.deref-2.ensures.value
    (subst (λ (parameters : List WrittenParameter).
    IsJudged (definition_demands known (map parameter_view parameters) blocks) r)
    c.deref.ensures.value c.check_definition.ensures))
