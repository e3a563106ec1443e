use Rattle.std.proofs.Common.{◌≡◌, map, ◌+◌, ◌*◌, length}
use Rattle.ir_terminals.specs.PhraseRows.Row.{many, keep_second}
use Rattle.ir_terminals.proofs.OnPhraseRows.Repeated.{with_front}
use Rattle.ir_terminals.specs.declared.terminal.Terminal.TheVariants as terminal
use Rattle.ir_terminals.specs.Position.{tokens_left}
use Rattle.ir_terminals.specs.Role.{class}
use Rattle.ir_terminals.specs.Tokens.{word}
use Rattle.ir_phrases.specs.Constants.Constants.{elements_row, operands_row, typed_at}
use Rattle.ir_phrases.specs.Constants.View.{typed_constant_view}
use Rattle.ir_phrases.proofs.constants.+constants.Given as goal

abbrev pub decreases-constants::holder : goal.decreases-constants::holder
decreases-constants::holder l = 8 * l.depth

abbrev pub decreases-constants::constant_at : goal.decreases-constants::constant_at
decreases-constants::constant_at l = 8 * l.depth + 1

abbrev pub decreases-constants::typed_at : goal.decreases-constants::typed_at
decreases-constants::typed_at l = 8 * l.depth + 2

abbrev pub decreases-constants::elements : goal.decreases-constants::elements
decreases-constants::elements l = 8 * l.depth + 3

abbrev pub decreases-expressions::operands : goal.decreases-expressions::operands
decreases-expressions::operands l = 8 * l.depth + 3

abbrev pub decreases-constants::braces : goal.decreases-constants::braces
decreases-constants::braces l = 8 * l.depth + 4

abbrev pub decreases-constants::packed : goal.decreases-constants::packed
decreases-constants::packed l = 8 * l.depth + 4

abbrev pub decreases-constants::square : goal.decreases-constants::square
decreases-constants::square l = 8 * l.depth + 4

abbrev pub decreases-expressions::element_address : goal.decreases-expressions::element_address
decreases-expressions::element_address l = 8 * l.depth + 4

abbrev pub decreases-expressions::conversion : goal.decreases-expressions::conversion
decreases-expressions::conversion l = 8 * l.depth + 4

abbrev pub decreases-expressions::arithmetic : goal.decreases-expressions::arithmetic
decreases-expressions::arithmetic l = 8 * l.depth + 4

abbrev pub decreases-expressions::expression_behind : goal.decreases-expressions::expression_behind
decreases-expressions::expression_behind l = 8 * l.depth + 5

abbrev pub decreases-expressions::expression : goal.decreases-expressions::expression
decreases-expressions::expression l = 8 * l.depth + 6

abbrev pub invariant-constants::elements-elements : goal.invariant-constants::elements-elements
invariant-constants::elements-elements l = record {
  so_far : with_front (map typed_constant_view l.elements.items) ((many class (keep_second (word terminal.Comma) (typed_at l.fn.cursor.limits l.depth))).run (tokens_left l.cursor)) ≡ (elements_row (typed_at l.fn.cursor.limits l.depth)).run (tokens_left l.fn.cursor);
  limits : l.cursor.limits ≡ l.fn.cursor.limits;
  text : l.cursor.text ≡ l.fn.cursor.text;
}

abbrev pub decreases-constants::elements-elements : goal.decreases-constants::elements-elements
decreases-constants::elements-elements l = length (tokens_left l.cursor)

abbrev pub invariant-expressions::operands-operands : goal.invariant-expressions::operands-operands
invariant-expressions::operands-operands l = record {
  so_far : with_front (map typed_constant_view l.operands.items) ((many class (keep_second (word terminal.Comma) (typed_at l.fn.cursor.limits l.depth))).run (tokens_left l.cursor)) ≡ (operands_row (typed_at l.fn.cursor.limits l.depth)).run (tokens_left l.fn.cursor);
  limits : l.cursor.limits ≡ l.fn.cursor.limits;
  text : l.cursor.text ≡ l.fn.cursor.text;
}

abbrev pub decreases-expressions::operands-operands : goal.decreases-expressions::operands-operands
decreases-expressions::operands-operands l = length (tokens_left l.cursor)
