use Rattle.std.proofs.Common.{List, map, sym, subst}
use Rattle.run_actions.specs.declared.edge.SwitchWay.{SwitchWay}
use Rattle.run_decode.specs.Operands.Endings.{AreMeant, case_from}
use Rattle.run_decode.proofs.OnOperands.Placed.{cases_put, grown_cases}
use Rattle.run_decode.proofs.operands.cases.put_cases.Goals as goal

pub returns-clause-grows : goal.returns-clause-grows
returns-clause-grows c = grown_cases c.append.result c.args.pools.now c.cases_of.new.pools c.append.new.self c.deref.result.now c.in_ok-done.ensures.grows c.append.ensures.items

pub returns-clause-cases : goal.returns-clause-cases
returns-clause-cases c =
    let meant = map (case_from c.args.scope.now c.args.from) c.args.cases.now in
    cases_put c.append.result c.cases_of.new.pools c.append.new.self c.deref.result.now meant c.append.ensures.span c.append.ensures.items
    (subst (λ (cs : List SwitchWay). AreMeant c.cases_of.new.pools cs meant) (sym c.deref.ensures.value) c.in_ok-done.ensures.cases)
