use Rattle.std.proofs.Common.{arith, subst, List, map}
use Rattle.std.specs.Prelude.{flat_map}
use Rattle.std.proofs.lemmas.Result.{err_from_is_err_and}
use Rattle.ir_syntax.specs.View.{parameter_view}
use Rattle.name_rules.specs.Demand.{Demand}
use Rattle.type_judge.specs.Gathered.{known_of}
use Rattle.type_judge.proofs.Parts.{Leads, leads_start, leads_next, leads_fails, leads_end}
use Rattle.name_judge.proofs.Parameters.{parameter_type_demands, parameters_are}
use Rattle.name_judge.proofs.functions.check_parameter_types.Goals as goal

pub parameters-init : goal.parameters-init
parameters-init c = subst (λ (all : List Demand). Leads (flat_map (parameter_type_demands (known_of c.args.known.now)) (map parameter_view c.args.parameters.now)) all) (parameters_are (known_of c.args.known.now) (map parameter_view c.args.parameters.now)) (leads_start _)

pub parameters-preserved : goal.parameters-preserved
parameters-preserved c = leads_next (parameter_type_demands (known_of c.args.known.now)) parameter_view c.args.parameters.now c.parameters.parameter-index c.parameter-item.result _ (omega arith) c.parameter-item.is c.in_ok-check_type.ensures c.parameters.invariant

pub returns-in_err-check_type : goal.returns-in_err-check_type
returns-in_err-check_type c =
    let p = err_from_is_err_and c.from_residual.result c.from_residual.ensures.1 in
    rw (p.1, p.2) (leads_fails (parameter_type_demands (known_of c.args.known.now)) parameter_view c.args.parameters.now c.parameters.parameter-index c.parameter-item.result _ _ (omega arith) c.parameter-item.is c.in_err-check_type.ensures c.parameters.invariant)

pub returns : goal.returns
returns c = leads_end (parameter_type_demands (known_of c.args.known.now)) parameter_view c.args.parameters.now c.parameters.parameter-index _ (omega arith) c.parameters.invariant
