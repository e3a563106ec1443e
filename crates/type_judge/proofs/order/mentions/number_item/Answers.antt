use Rattle.std.proofs.Common.{subst, sym, ◌++◌, [], ◌∷◌}
use Rattle.ir_syntax.specs.declared.item.Item.{Item}
use Rattle.ir_syntax.specs.View.{body_view, item_view}
use Rattle.name_rules.specs.ModuleOf.{structs_in}
use Rattle.name_rules.specs.Written.{body_in}
use Rattle.type_judge.specs.Order.Mentions.{AreNumbers}
use Rattle.type_judge.proofs.OnOrder.Gathered.{numbers_more}
use Rattle.type_judge.proofs.order.mentions.number_item.Goals as goal

pub returns-in_ok-add_number-in-Struct-clause-numbers : goal.returns-in_ok-add_number-in-Struct-clause-numbers
returns-in_ok-add_number-in-Struct-clause-numbers c structs e are =
    subst (λ (i : Item). AreNumbers c.add_number.new.numbers (structs ++ structs_in (item_view i ∷ []))) (sym c.in-Struct.is)
    (numbers_more c.args.numbers.now c.add_number.new.numbers structs (c.in-Struct.name.name, body_in (body_view c.in-Struct.body)) c.args.count e are c.in_ok-add_number-in-Struct.ensures)
