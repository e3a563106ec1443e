use Rattle.std.proofs.Common.{◌≡◌, get_or, true, false, arith}
use Rattle.ir_lexer.specs.Class.{byte_class, set_of}
use Rattle.ir_lexer.proofs.Walks.{run_on, run_off, run_at_end}
use Rattle.ir_lexer.proofs.run.run_of.Goals as goal

pub loop-n-preserved : goal.loop-n-preserved
loop-n-preserved c =
    let e : set_of c.args.set (byte_class (get_or c.args.bytes.now c.loop-n.n 0)) ≡ true = cc in
    record { within = omega arith; count = omega (arith, run_on (set_of c.args.set) c.args.bytes.now c.loop-n.n c.loop-n-test.true e, c.loop-n.invariant.count) }

pub returns-else-has-clause-count : goal.returns-else-has-clause-count
returns-else-has-clause-count c =
    let e : set_of c.args.set (byte_class (get_or c.args.bytes.now c.loop-n.n 0)) ≡ false = cc in
    omega (arith, run_off (set_of c.args.set) c.args.bytes.now c.loop-n.n c.loop-n-test.true e, c.loop-n.invariant.count)

pub returns-after-loop-n-clause-count : goal.returns-after-loop-n-clause-count
returns-after-loop-n-clause-count c = omega (arith, run_at_end (set_of c.args.set) c.args.bytes.now c.loop-n.n (omega arith), c.loop-n.invariant.count)
