use Rattle.std.proofs.Common.{drop, map}
use Rattle.std.specs.Prelude.{flat_map}
use Rattle.ir_syntax.specs.Functions.{parameter_types}
use Rattle.ir_syntax.specs.View.{parameter_view}
use Rattle.name_rules.specs.TypeDemands.{type_demands}
use Rattle.type_judge.specs.Gathered.{known_of}
use Rattle.type_judge.proofs.Parts.{Leads}
use Rattle.name_judge.proofs.Parameters.{parameter_type_demands}
use Rattle.name_judge.proofs.functions.check_parameter_types.Given as goal

abbrev pub invariant-parameters : goal.invariant-parameters
invariant-parameters l = Leads (flat_map (parameter_type_demands (known_of l.known)) (map parameter_view (drop l.parameter-index l.parameters))) (flat_map (type_demands (known_of l.known)) (parameter_types (map parameter_view l.parameters)))
