use Rattle.std.proofs.Common.{◌≡◌, length}
use Rattle.ir_terminals.specs.Position.{tokens_left}
use Rattle.ir_phrases.specs.Instructions.Dropped.{attachments_row}
use Rattle.ir_phrases.proofs.instructions.metadata.attachments.Given as goal

abbrev pub invariant-attachments : goal.invariant-attachments
invariant-attachments l = record {
  so_far : attachments_row.run (tokens_left l.cursor) ≡ attachments_row.run (tokens_left l.fn.cursor);
  limits : l.cursor.limits ≡ l.fn.cursor.limits;
  text : l.cursor.text ≡ l.fn.cursor.text;
}

abbrev pub decreases-attachments : goal.decreases-attachments
decreases-attachments l = length (tokens_left l.cursor)
