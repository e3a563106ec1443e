use Rattle.std.proofs.Common.{◌≡◌, take}
use Rattle.ir_syntax.specs.View.{items_view}
use Rattle.name_rules.specs.ModuleOf.{structs_in}
use Rattle.type_judge.specs.Order.Measuring.{bodies_in, bodies_of}
use Rattle.type_judge.proofs.order.measures.struct_bodies.Given as goal

abbrev pub invariant-items : goal.invariant-items
invariant-items l = bodies_in l.bodies.items ≡ bodies_of (structs_in (items_view (take l.item-index l.item-items)))
