use Rattle.std.proofs.Common.{◌≡◌, length}
use Rattle.ir_terminals.proofs.OnPhraseRows.Repeated.{with_front}
use Rattle.ir_terminals.specs.Position.{tokens_left}
use Rattle.ir_syntax.specs.Items.{items_row}
use Rattle.ir_syntax.specs.View.{items_view}
use Rattle.ir_syntax.proofs.items.items.Given as goal

abbrev pub invariant-items : goal.invariant-items
invariant-items l = record {
  so_far : with_front (items_view l.items.items) ((items_row l.cursor.limits).run (tokens_left l.cursor)) ≡ (items_row l.fn.cursor.limits).run (tokens_left l.fn.cursor);
  limits : l.cursor.limits ≡ l.fn.cursor.limits;
  text : l.cursor.text ≡ l.fn.cursor.text;
}

abbrev pub decreases-items : goal.decreases-items
decreases-items l = length (tokens_left l.cursor)
