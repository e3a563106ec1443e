use Rattle.std.proofs.Common.{arith}
use Rattle.std.proofs.lemmas.Result.{err_from_is_err_and}
use Rattle.ir_phrases.specs.Constants.View.{typed_value_view}
use Rattle.name_rules.specs.FunctionDemands.{operand_demands}
use Rattle.type_judge.specs.Gathered.{known_of}
use Rattle.type_judge.proofs.Parts.{leads_start, leads_next, leads_fails, leads_end}
use Rattle.name_judge.specs.Locals.Names.{locals_of}
use Rattle.name_judge.proofs.locals.operands.check_operands.Goals as goal

pub operands-init : goal.operands-init
operands-init c = leads_start _

pub operands-preserved : goal.operands-preserved
operands-preserved c = leads_next (operand_demands (known_of c.args.known.now) (locals_of c.args.locals.now)) typed_value_view c.args.operands.now c.operands.operand-index c.operand-item.result _ (omega arith) c.operand-item.is c.in_ok-check_operand.ensures c.operands.invariant

pub returns-in_err-check_operand : goal.returns-in_err-check_operand
returns-in_err-check_operand c =
    let p = err_from_is_err_and c.from_residual.result c.from_residual.ensures.1 in
    rw (p.1, p.2) (leads_fails (operand_demands (known_of c.args.known.now) (locals_of c.args.locals.now)) typed_value_view c.args.operands.now c.operands.operand-index c.operand-item.result _ _ (omega arith) c.operand-item.is c.in_err-check_operand.ensures c.operands.invariant)

pub returns : goal.returns
returns c = leads_end (operand_demands (known_of c.args.known.now) (locals_of c.args.locals.now)) typed_value_view c.args.operands.now c.operands.operand-index _ (omega arith) c.operands.invariant
