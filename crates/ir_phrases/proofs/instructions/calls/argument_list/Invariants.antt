use Rattle.std.proofs.Common.{◌≡◌, length, map}
use Rattle.ir_terminals.specs.PhraseRows.Row.{many, keep_second}
use Rattle.ir_terminals.proofs.OnPhraseRows.Repeated.{with_front}
use Rattle.ir_terminals.specs.declared.terminal.Terminal.TheVariants as terminal
use Rattle.ir_terminals.specs.Position.{tokens_left}
use Rattle.ir_terminals.specs.Role.{class}
use Rattle.ir_terminals.specs.Tokens.{word}
use Rattle.ir_phrases.specs.Constants.View.{typed_value_view}
use Rattle.ir_phrases.specs.Instructions.Calls.{argument_row, argument_list_row}
use Rattle.ir_phrases.proofs.instructions.calls.argument_list.Given as goal

abbrev pub invariant-arguments : goal.invariant-arguments
invariant-arguments l = record {
  so_far : with_front (map typed_value_view l.arguments.items) ((many class (keep_second (word terminal.Comma) (argument_row l.cursor.limits))).run (tokens_left l.cursor)) ≡ (argument_list_row l.fn.cursor.limits).run (tokens_left l.fn.cursor);
  limits : l.cursor.limits ≡ l.fn.cursor.limits;
  text : l.cursor.text ≡ l.fn.cursor.text;
}

abbrev pub decreases-arguments : goal.decreases-arguments
decreases-arguments l = length (tokens_left l.cursor)
