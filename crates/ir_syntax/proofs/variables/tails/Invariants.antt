use Rattle.std.proofs.Common.{◌≡◌, length}
use Rattle.ir_terminals.specs.PhraseRows.Row.{loop}
use Rattle.ir_terminals.specs.Position.{tokens_left}
use Rattle.ir_terminals.specs.Role.{class}
use Rattle.ir_phrases.specs.Instructions.Dropped.{comma_shape}
use Rattle.ir_syntax.specs.Variables.{tail_step, tails_row}
use Rattle.ir_syntax.proofs.variables.tails.Given as goal

abbrev pub invariant-tails : goal.invariant-tails
invariant-tails l = record {
  so_far : (loop class comma_shape tail_step l.alignment).run (tokens_left l.cursor) ≡ tails_row.run (tokens_left l.fn.cursor);
  limits : l.cursor.limits ≡ l.fn.cursor.limits;
  text : l.cursor.text ≡ l.fn.cursor.text;
}

abbrev pub decreases-tails : goal.decreases-tails
decreases-tails l = length (tokens_left l.cursor)
