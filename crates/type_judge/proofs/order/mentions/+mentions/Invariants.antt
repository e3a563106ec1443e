use Rattle.std.proofs.Common.{◌≡◌, ◌++◌}
use Rattle.type_judge.specs.Order.Mentions.{numbers_of}
use Rattle.type_judge.proofs.OnOrder.Gathered.{names_behind}
use Rattle.type_judge.proofs.order.mentions.+mentions.Given as goal

abbrev pub invariant-add_types-fields : goal.invariant-add_types-fields
invariant-add_types-fields l = l.found.items ++ numbers_of l.numbers (names_behind l.fields l.field-index) ≡ l.fn.found.items ++ numbers_of l.numbers (names_behind l.fields 0)
