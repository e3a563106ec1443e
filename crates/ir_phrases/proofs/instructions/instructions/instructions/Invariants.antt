use Rattle.std.proofs.Common.{◌≡◌, length, map}
use Rattle.ir_terminals.specs.PhraseRows.Row.{many}
use Rattle.ir_terminals.proofs.OnPhraseRows.Repeated.{with_front}
use Rattle.ir_terminals.specs.Position.{tokens_left}
use Rattle.ir_terminals.specs.Role.{class}
use Rattle.ir_phrases.specs.Instructions.View.{instruction_view}
use Rattle.ir_phrases.specs.Instructions.Instructions.{instruction_row, instructions_row}
use Rattle.ir_phrases.proofs.instructions.instructions.instructions.Given as goal

abbrev pub invariant-instructions : goal.invariant-instructions
invariant-instructions l = record {
  so_far : with_front (map instruction_view l.instructions.items) ((many class (instruction_row l.cursor.limits)).run (tokens_left l.cursor)) ≡ (instructions_row l.fn.cursor.limits).run (tokens_left l.fn.cursor);
  limits : l.cursor.limits ≡ l.fn.cursor.limits;
  text : l.cursor.text ≡ l.fn.cursor.text;
}

abbrev pub decreases-instructions : goal.decreases-instructions
decreases-instructions l = length (tokens_left l.cursor)
