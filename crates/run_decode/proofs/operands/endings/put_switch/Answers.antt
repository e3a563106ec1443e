use Rattle.run_decode.proofs.OnFlat.Growth.{adds_then}
use Rattle.run_decode.proofs.OnOperands.Ended.{switch_meant}
use Rattle.run_decode.proofs.operands.endings.put_switch.Goals as goal

pub returns-clause-grows : goal.returns-clause-grows
returns-clause-grows c =
    let p = c.put_scalar.new.pools in
    let q = c.put_edge.new.pools in
    let r = c.put_cases.new.pools in
    adds_then c.args.pools.now p r c.in_ok-value.ensures.grows (adds_then p q r c.in_ok-otherwise.ensures.grows c.in_ok-cases.ensures.grows)

pub returns-clause-action : goal.returns-clause-action
returns-clause-action c =
    switch_meant c.args.scope.now c.args.from c.put_scalar.new.pools c.put_edge.new.pools c.put_cases.new.pools c.in_ok-otherwise.ensures.grows c.in_ok-cases.ensures.grows c.args.operand c.args.otherwise c.in_ok-otherwise.otherwise
    c.in_ok-value.value c.args.cases.now c.in_ok-cases.cases c.in_ok-value.ensures.leaf c.in_ok-otherwise.ensures.edge c.in_ok-cases.ensures.cases
