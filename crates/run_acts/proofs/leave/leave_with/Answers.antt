use Rattle.run_acts.proofs.Leaving.{left_is}
use Rattle.run_acts.proofs.Readiness.{ready_left, ready_valued}
use Rattle.run_acts.proofs.leave.leave_with.Goals as goal

pub returns-then-not-is_empty-clause-ready : goal.returns-then-not-is_empty-clause-ready
returns-then-not-is_empty-clause-ready c = λ p h.
    let old = c.args.stack.now in
    let left = left_is old c.end_allocas.new.stack c.leave-to.new.self c.end_allocas.ensures.stack c.leave-to.ensures.left in
    ready_valued p c.leave-to.new.self c.set_all.new.self c.leave-to.result c.args.value.now c.set_all.ensures (ready_left p old c.leave-to.new.self left h)
