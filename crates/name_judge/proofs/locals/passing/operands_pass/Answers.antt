use Rattle.std.proofs.Common.{arith}
use Rattle.ir_phrases.specs.Constants.View.{typed_value_view}
use Rattle.name_rules.specs.FunctionDemands.{operand_demands}
use Rattle.type_judge.specs.Gathered.{known_of}
use Rattle.type_judge.proofs.Parts.{leads_start, leads_next, leads_end}
use Rattle.name_judge.specs.Locals.Names.{locals_of}
use Rattle.name_judge.proofs.locals.passing.operands_pass.Goals as goal

pub operands-init : goal.operands-init
operands-init c = leads_start _

pub operands-preserved : goal.operands-preserved
operands-preserved c = leads_next (operand_demands (known_of c.args.known.now) (locals_of c.args.locals.now)) typed_value_view c.args.operands.now c.operands.operand-index c.operand-item.result _ (omega arith) c.operand-item.is (c.operand_passes.ensures c.if-not-operand_passes.false) c.operands.invariant

pub returns : goal.returns
returns c e = leads_end (operand_demands (known_of c.args.known.now) (locals_of c.args.locals.now)) typed_value_view c.args.operands.now c.operands.operand-index _ (omega arith) c.operands.invariant
