use Rattle.std.proofs.Common.{sym, ◌∙◌, Vec, Global}
use Rattle.ir_syntax.specs.declared.item.Item.{Item}
use Rattle.ir_syntax.specs.View.{items_view}
use Rattle.ir_syntax.proofs.Results.{whole_told, rest_told, refused_told}
use Rattle.ir_syntax.proofs.items.all_items.Goals as goal

pub returns-then-is_at_end : goal.returns-then-is_at_end
returns-then-is_at_end c =
    (whole_told c.args.cursor.now c.items.new.cursor (items_view c.in-Ok.items.items) c.requires c.in-Ok.ensures.2 c.in-Ok.ensures.0 (sym c.is_at_end.ensures ∙ c.if-is_at_end.true), c.in-Ok.ensures.2)

pub returns-else-is_at_end : goal.returns-else-is_at_end
returns-else-is_at_end c =
    (rest_told c.args.cursor.now c.items.new.cursor (items_view c.in-Ok.items.items) c.requires c.in-Ok.ensures.2 c.in-Ok.ensures.0 (sym c.is_at_end.ensures ∙ c.if-is_at_end.false), c.in-Ok.ensures.2)

pub returns-in-Err : goal.returns-in-Err
returns-in-Err c = refused_told (λ (x : Vec Item Global). items_view x.items) c.args.cursor.now c.items.new.cursor c.in-Err.fault c.requires c.in-Err.ensures
