use Rattle.std.proofs.Common.{Vec, Global}
use Rattle.ir_syntax.specs.declared.item.Item.{Item}
use Rattle.ir_syntax.specs.View.{items_view}
use Rattle.ir_syntax.proofs.Results.{viable_told, viable_before_told}
use Rattle.ir_syntax.proofs.read.is_viable_through.Goals as goal

pub returns-in-Ok : goal.returns-in-Ok
returns-in-Ok c =
    viable_told (λ (x : Vec Item Global). items_view x.items) c.args.limits c.args.text.now c.args.number c.requires.token c.in-Ok.field-0 c.all_items.new.cursor (rw c.new-cursor.ensures.start at c.in-Ok.ensures)

pub returns : goal.returns
returns c =
    viable_before_told (λ (x : Vec Item Global). items_view x.items) c.args.limits c.args.text.now c.args.number c.requires.token c.all_items.new.cursor c.taken.result (rw (c.in-Err-Refused.field-0-is, c.new-cursor.ensures.start) at c.in-Err-Refused.ensures) c.taken.ensures.count c.taken.ensures.within
