use Rattle.std.proofs.Common.{◌^◌, ◌<◌}
use Rattle.ir_eval.proofs.Ranges.{integers_kind}
use Rattle.ir_eval.proofs.operator.binary.Goals as goal

pub returns-in-Int-Int-clause-kind : goal.returns-in-Int-Int-clause-kind
returns-in-Int-Int-clause-kind c =
    let a : c.in-Int-Int.a < 2 ^ c.args.width = rw c.in-Int-Int.is-0 at c.requires.a in
    let b : c.in-Int-Int.b < 2 ^ c.args.width = rw c.in-Int-Int.is-1 at c.requires.b in
    rw c.integers.ensures (integers_kind c.args.op c.args.flags c.args.width c.in-Int-Int.a c.in-Int-Int.b a b)
