use Rattle.std.proofs.Common.{drop, map}
use Rattle.std.specs.Prelude.{flat_map}
use Rattle.ir_phrases.specs.Constants.View.{typed_value_view}
use Rattle.name_rules.specs.FunctionDemands.{operand_demands}
use Rattle.type_judge.specs.Gathered.{known_of}
use Rattle.type_judge.proofs.Parts.{Leads}
use Rattle.name_judge.specs.Locals.Names.{locals_of}
use Rattle.name_judge.proofs.locals.passing.operands_pass.Given as goal

abbrev pub invariant-operands : goal.invariant-operands
invariant-operands l = Leads (flat_map (operand_demands (known_of l.known) (locals_of l.locals)) (map typed_value_view (drop l.operand-index l.operands))) (flat_map (operand_demands (known_of l.known) (locals_of l.locals)) (map typed_value_view l.operands))
