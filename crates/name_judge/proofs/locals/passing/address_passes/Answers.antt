use Rattle.std.proofs.Common.{subst, List, map}
use Rattle.std.specs.Prelude.{flat_map}
use Rattle.ir_phrases.specs.declared.constants.value.TypedValue.{TypedValue}
use Rattle.ir_phrases.specs.Constants.View.{typed_value_view}
use Rattle.name_rules.specs.FunctionDemands.{operand_demands}
use Rattle.type_judge.specs.Gathered.{known_of}
use Rattle.name_judge.specs.Locals.Literals.{Hold}
use Rattle.name_judge.specs.Locals.Names.{locals_of}
use Rattle.name_judge.proofs.OnLocals.Steps.{judged_rest}
use Rattle.name_judge.proofs.locals.passing.address_passes.Goals as goal

pub returns : goal.returns
returns c e =
    let operands = subst (λ (os : List TypedValue). Hold (flat_map (operand_demands (known_of c.args.known.now) (locals_of c.args.locals.now)) (map typed_value_view os))) c.deref.ensures.value (c.operands_pass.ensures e) in
    judged_rest _ _ _ (c.type_passes.ensures (known_of c.args.known.now) c.if-not-type_passes.false) operands
