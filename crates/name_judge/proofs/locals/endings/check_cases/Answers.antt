use Rattle.std.proofs.Common.{arith}
use Rattle.std.proofs.lemmas.Result.{err_from_is_err_and}
use Rattle.ir_phrases.specs.Instructions.View.{case_view}
use Rattle.name_rules.specs.FunctionDemands.{case_demands}
use Rattle.type_judge.specs.Gathered.{known_of}
use Rattle.type_judge.proofs.Parts.{leads_start, leads_next, leads_fails, leads_end}
use Rattle.name_judge.specs.Locals.Names.{locals_of}
use Rattle.name_judge.proofs.locals.endings.check_cases.Goals as goal

pub cases-init : goal.cases-init
cases-init c = leads_start _

pub cases-preserved : goal.cases-preserved
cases-preserved c = leads_next (case_demands (known_of c.args.known.now) (locals_of c.args.locals.now)) case_view c.args.cases.now c.cases.case-index c.case-item.result _ (omega arith) c.case-item.is c.in_ok-check_case.ensures c.cases.invariant

pub returns-in_err-check_case : goal.returns-in_err-check_case
returns-in_err-check_case c =
    let p = err_from_is_err_and c.from_residual.result c.from_residual.ensures.1 in
    rw (p.1, p.2) (leads_fails (case_demands (known_of c.args.known.now) (locals_of c.args.locals.now)) case_view c.args.cases.now c.cases.case-index c.case-item.result _ _ (omega arith) c.case-item.is c.in_err-check_case.ensures c.cases.invariant)

pub returns : goal.returns
returns c = leads_end (case_demands (known_of c.args.known.now) (locals_of c.args.locals.now)) case_view c.args.cases.now c.cases.case-index _ (omega arith) c.cases.invariant
