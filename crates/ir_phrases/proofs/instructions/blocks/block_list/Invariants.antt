use Rattle.std.proofs.Common.{◌≡◌, length, map}
use Rattle.ir_terminals.specs.PhraseRows.Row.{many}
use Rattle.ir_terminals.proofs.OnPhraseRows.Repeated.{with_front}
use Rattle.ir_terminals.specs.Position.{tokens_left}
use Rattle.ir_terminals.specs.Role.{class}
use Rattle.ir_phrases.specs.Instructions.View.{block_view}
use Rattle.ir_phrases.specs.Instructions.Blocks.{block_row, block_list_row}
use Rattle.ir_phrases.proofs.instructions.blocks.block_list.Given as goal

abbrev pub invariant-list : goal.invariant-list
invariant-list l = record {
  so_far : with_front (map block_view l.blocks.items) ((many class (block_row l.cursor.limits)).run (tokens_left l.cursor)) ≡ (block_list_row l.fn.cursor.limits).run (tokens_left l.fn.cursor);
  limits : l.cursor.limits ≡ l.fn.cursor.limits;
  text : l.cursor.text ≡ l.fn.cursor.text;
}

abbrev pub decreases-list : goal.decreases-list
decreases-list l = length (tokens_left l.cursor)
