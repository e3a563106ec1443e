use Rattle.std.proofs.Common.{◌≡◌, length, map}
use Rattle.ir_terminals.specs.PhraseRows.Row.{many}
use Rattle.ir_terminals.proofs.OnPhraseRows.Repeated.{with_front}
use Rattle.ir_terminals.specs.Position.{tokens_left}
use Rattle.ir_terminals.specs.Role.{class}
use Rattle.ir_phrases.specs.Instructions.View.{case_view}
use Rattle.ir_phrases.specs.Instructions.Endings.{case_row, case_list_row}
use Rattle.ir_phrases.proofs.instructions.endings.case_list.Given as goal

abbrev pub invariant-cases : goal.invariant-cases
invariant-cases l = record {
  so_far : with_front (map case_view l.cases.items) ((many class (case_row l.cursor.limits)).run (tokens_left l.cursor)) ≡ (case_list_row l.fn.cursor.limits).run (tokens_left l.fn.cursor);
  limits : l.cursor.limits ≡ l.fn.cursor.limits;
  text : l.cursor.text ≡ l.fn.cursor.text;
}

abbrev pub decreases-cases : goal.decreases-cases
decreases-cases l = length (tokens_left l.cursor)
