use Rattle.std.proofs.Common.{◌+◌, List, map, take, sym, subst, arith}
use Rattle.std.proofs.lemmas.List.{take_all}
use Rattle.module_arena.specs.declared.instruction.Case as the_case
use Rattle.run_actions.specs.declared.edge.SwitchWay.{SwitchWay}
use Rattle.run_decode.proofs.OnFlat.Growth.{adds_none, adds_then}
use Rattle.run_decode.specs.Operands.Endings.{AreMeant, case_from}
use Rattle.run_decode.proofs.OnOperands.Placed.{meant_more, meant_none}
use Rattle.run_decode.proofs.operands.cases.cases_of.Goals as goal

pub cases-init : goal.cases-init
cases-init c = record {
  grows = adds_none c.args.pools.now;
  cases = subst (λ (cs : List SwitchWay). AreMeant c.args.pools.now cs (map (case_from c.args.scope.now c.args.from) (take 0 c.args.cases.now))) (sym c.new-done.ensures.items) (meant_none c.args.pools.now (case_from c.args.scope.now c.args.from) c.args.cases.now);
}

pub cases-preserved : goal.cases-preserved
cases-preserved c =
    let one = case_from c.args.scope.now c.args.from in
    let q = c.put_case.new.pools in
    record {
      grows = adds_then c.args.pools.now c.cases.pools q c.cases.invariant.grows c.in_ok-one.ensures.grows;
      cases =
          subst (λ (cs : List SwitchWay). AreMeant q cs (map one (take (c.cases.case-index + 1) c.args.cases.now))) (sym c.in_ok-push.ensures.items)
          (meant_more c.cases.pools q one c.args.cases.now c.cases.case-index c.case-item.result c.case-item.result c.cases.done.items c.in_ok-one.one c.in_ok-one.ensures.grows.grows c.cases-test.true c.case-item.is c.in_ok-one.ensures.moves c.in_ok-one.ensures.case c.cases.invariant.cases);
    }

pub returns-clause-cases : goal.returns-clause-cases
returns-clause-cases c =
    let one = case_from c.args.scope.now c.args.from in
    subst (λ (xs : List the_case.Case). AreMeant c.cases.pools c.cases.done.items (map one xs)) (take_all c.cases.case-index c.args.cases.now (omega arith)) c.cases.invariant.cases
