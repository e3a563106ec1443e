use Rattle.std.proofs.Common.{List, subst}
use Rattle.ir_eval.specs.declared.value.Scalar.{Scalar}
use Rattle.run_actions.proofs.OnAccesses.Storing.{leaves_read}
use Rattle.run_acts.specs.Said.{IsReturned}
use Rattle.run_acts.proofs.leave.return_value.Goals as goal

pub returns-clause-returned : goal.returns-clause-returned
returns-clause-returned c = λ due last.
    let a = c.args in
    let r = c.leave_with-2 in
    let same = leaves_read a.stack.now a.value.now c.clear.new.self.items c.read_all.new.into.items c.deref.result.now c.clear.ensures.items c.in_ok-read_all.ensures.ok c.deref.ensures.value in
    subst (λ (vs : List Scalar). IsReturned vs due r.result a.stack.now r.new.stack a.memory.now r.new.memory) same (r.ensures.returned due last)
