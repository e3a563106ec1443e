use Rattle.std.proofs.Common.{◌≡◌, map, ◌+◌, ◌*◌, length}
use Rattle.ir_terminals.specs.PhraseRows.Row.{many, keep_second}
use Rattle.ir_terminals.proofs.OnPhraseRows.Repeated.{with_front}
use Rattle.ir_terminals.specs.declared.terminal.Terminal.TheVariants as terminal
use Rattle.ir_terminals.specs.Position.{tokens_left}
use Rattle.ir_terminals.specs.Role.{class}
use Rattle.ir_terminals.specs.Tokens.{word}
use Rattle.ir_phrases.specs.Constants.Types.{types_row, type_at}
use Rattle.ir_phrases.specs.Constants.View.{type_view}
use Rattle.ir_phrases.proofs.constants.types.+types.Given as goal

abbrev pub decreases-nested : goal.decreases-nested
decreases-nested l = 6 * l.depth

abbrev pub decreases-value_type_at : goal.decreases-value_type_at
decreases-value_type_at l = 6 * l.depth + 1

abbrev pub decreases-type_at : goal.decreases-type_at
decreases-type_at l = 6 * l.depth + 2

abbrev pub decreases-fields : goal.decreases-fields
decreases-fields l = 6 * l.depth + 3

abbrev pub decreases-array : goal.decreases-array
decreases-array l = 6 * l.depth + 4

abbrev pub decreases-packed : goal.decreases-packed
decreases-packed l = 6 * l.depth + 4

abbrev pub decreases-structure : goal.decreases-structure
decreases-structure l = 6 * l.depth + 4

abbrev pub invariant-fields-fields : goal.invariant-fields-fields
invariant-fields-fields l = record {
  so_far : with_front (map type_view l.fields.items) ((many class (keep_second (word terminal.Comma) (type_at l.fn.cursor.limits l.depth))).run (tokens_left l.cursor)) ≡ (types_row (type_at l.fn.cursor.limits l.depth)).run (tokens_left l.fn.cursor);
  limits : l.cursor.limits ≡ l.fn.cursor.limits;
  text : l.cursor.text ≡ l.fn.cursor.text;
}

abbrev pub decreases-fields-fields : goal.decreases-fields-fields
decreases-fields-fields l = length (tokens_left l.cursor)
