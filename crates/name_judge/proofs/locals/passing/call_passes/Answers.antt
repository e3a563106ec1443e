use Rattle.std.proofs.Common.{subst, List, map}
use Rattle.std.specs.Prelude.{flat_map}
use Rattle.ir_phrases.specs.declared.constants.value.TypedValue.{TypedValue}
use Rattle.ir_phrases.specs.Constants.View.{typed_value_view}
use Rattle.name_rules.specs.FunctionDemands.{operand_demands}
use Rattle.type_judge.specs.Gathered.{known_of}
use Rattle.name_judge.specs.Locals.Literals.{Hold}
use Rattle.name_judge.specs.Locals.Names.{locals_of}
use Rattle.name_judge.proofs.OnLocals.Steps.{judged_rest}
use Rattle.name_judge.proofs.locals.passing.call_passes.Goals as goal

pub returns : goal.returns
returns c e =
    let known = known_of c.args.known.now in
    let all = locals_of c.args.locals.now in
    let operands = subst (λ (os : List TypedValue). Hold (flat_map (operand_demands known all) (map typed_value_view os))) c.deref.ensures.value (c.operands_pass.ensures e) in
    judged_rest _ _ _ (c.type_passes.ensures known c.if-not-type_passes.false) (judged_rest _ _ _ (c.signature_passes.ensures known all c.if-not-signature_passes.false) (judged_rest _ _ _ (c.callee_passes.ensures c.if-not-callee_passes.false) operands))
