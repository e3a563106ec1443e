use Rattle.std.proofs.Common.{List, ◌++◌, append-nil, map, sym, ap, ◌∙◌, arith}
use Rattle.std.proofs.lemmas.List.{take_all}
use Rattle.module_arena.specs.declared.instruction.Operand.{Operand}
use Rattle.run_decode.proofs.OnFlat.Growth.{adds_none, adds_then, types_add}
use Rattle.run_decode.proofs.Called.{types_in, types_more, types_put}
use Rattle.run_decode.proofs.calls.put_types.Goals as goal

pub operands-init : goal.operands-init
operands-init c = record { grows = adds_none c.args.pools.now; gained = sym (append-nil c.args.pools.now.types) }

pub operands-preserved : goal.operands-preserved
operands-preserved c =
    let p = c.operands.pools in
    record {
      grows = adds_then c.args.pools.now p (record p { types = c.push.new.self }) c.operands.invariant.grows (types_add p c.push.new.self (_, c.in_ok-push.ensures.items));
      gained = types_more c.args.operands.now c.operands.operand-index c.operand-item.result c.operand-item.result c.args.pools.now.types p.types c.push.new.self c.operands-test.true c.operand-item.is c.in_ok-push.ensures.items c.operands.invariant.gained;
    }

pub returns-clause-within : goal.returns-clause-within
returns-clause-within c = types_in c.since.result c.args.pools.now.types c.operands.pools.types c.len-first.result c.len-first.ensures c.since.ensures

pub returns-clause-types : goal.returns-clause-types
returns-clause-types c =
    let all = c.operands.invariant.gained ∙ ap (λ (os : List Operand). c.args.pools.now.types ++ map (λ (o : Operand). o.ty) os) (take_all c.operands.operand-index c.args.operands.now (omega arith)) in
    types_put c.since.result c.args.pools.now.types c.operands.pools.types _ c.len-first.result c.len-first.ensures all c.since.ensures
