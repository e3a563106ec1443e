use Rattle.std.proofs.Common.{◌≡◌, drop}
use Rattle.type_judge.specs.Order.Measuring.{bodies_in, with_measures}
use Rattle.type_judge.proofs.order.measures.measure_along.Given as goal

abbrev pub invariant-order : goal.invariant-order
invariant-order l = record {
  numbers : l.table.numbers ≡ l.initial.table.numbers;
  measures : with_measures l.initial.table.numbers (bodies_in l.bodies) l.table.measures.items (drop l.number-index l.order) ≡ with_measures l.initial.table.numbers (bodies_in l.bodies) l.initial.table.measures.items l.order;
}
