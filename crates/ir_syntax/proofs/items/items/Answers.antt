use Rattle.std.proofs.Common.{sym, ◌∙◌, [], ◌∷◌}
use Rattle.std.proofs.lemmas.List.{map-append}
use Rattle.ir_terminals.specs.Position.{tokens_left}
use Rattle.ir_syntax.specs.View.{item_view, items_view}
use Rattle.ir_syntax.proofs.Loops.{items_next, items_less}
use Rattle.ir_syntax.proofs.items.items.Goals as goal

pub items-smaller : goal.items-smaller
items-smaller c = items_less c.items.cursor.limits (item_view c.in_ok-item.field-0) (tokens_left c.items.cursor) (tokens_left c.item.new.cursor) c.in_ok-item.ensures.0

pub items-preserved : goal.items-preserved
items-preserved c = record {
  so_far =
      (let n = items_next c.items.cursor.limits (items_view c.items.items.items) (item_view c.in_ok-item.field-0) (tokens_left c.items.cursor) (tokens_left c.item.new.cursor) (sym c.is_item_next.ensures ∙ c.items-test.true) c.in_ok-item.ensures.0 in
      let m = map-append item_view c.items.items.items (c.in_ok-item.field-0 ∷ []) in
      let e = c.in_ok-push.ensures.items in
      let l = c.in_ok-item.ensures.1 in
      let i = c.items.invariant.so_far in
      cc);
  limits = c.in_ok-item.ensures.1 ∙ c.items.invariant.limits;
  text = c.in_ok-item.ensures.2 ∙ c.items.invariant.text;
}
