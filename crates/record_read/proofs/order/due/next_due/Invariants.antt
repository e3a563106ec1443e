use Rattle.record_read.proofs.OnOrder.Dues.{IsSought}
use Rattle.record_read.proofs.order.due.next_due.Given as goal

abbrev pub invariant-functions : goal.invariant-functions
invariant-functions l = IsSought l.defined l.came l.passed l.place
