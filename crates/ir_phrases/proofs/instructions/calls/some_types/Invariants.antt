use Rattle.std.proofs.Common.{◌≡◌, length, map}
use Rattle.ir_terminals.specs.PhraseRows.Row.{loop}
use Rattle.ir_terminals.specs.Position.{tokens_left}
use Rattle.ir_terminals.specs.Role.{class}
use Rattle.ir_phrases.specs.Constants.View.{type_view}
use Rattle.ir_phrases.specs.Instructions.Dropped.{comma_shape}
use Rattle.ir_phrases.specs.Instructions.Calls.{signature_step, some_types_row}
use Rattle.ir_phrases.proofs.instructions.calls.some_types.Given as goal

abbrev pub invariant-parameters : goal.invariant-parameters
invariant-parameters l = record {
  so_far : (loop class comma_shape (signature_step l.cursor.limits) (map type_view l.parameters.items, l.variadic)).run (tokens_left l.cursor) ≡ (some_types_row l.fn.cursor.limits).run (tokens_left l.fn.cursor);
  limits : l.cursor.limits ≡ l.fn.cursor.limits;
  text : l.cursor.text ≡ l.fn.cursor.text;
}

abbrev pub decreases-parameters : goal.decreases-parameters
decreases-parameters l = length (tokens_left l.cursor)
