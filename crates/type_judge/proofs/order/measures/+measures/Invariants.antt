use Rattle.std.proofs.Common.{◌≡◌}
use Rattle.type_judge.specs.Order.Measuring.{measure_in}
use Rattle.type_judge.proofs.OnOrder.Fields.{with_more}
use Rattle.type_judge.proofs.order.measures.+measures.Given as goal

abbrev pub invariant-fields_measure-fields : goal.invariant-fields_measure-fields
invariant-fields_measure-fields l = with_more (measure_in l.table) l.packed l.sofar l.fields l.field-index ≡ with_more (measure_in l.table) l.packed l.initial.sofar l.fields 0
