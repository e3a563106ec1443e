use Rattle.std.proofs.Common.{◌≡◌, length}
use Rattle.ir_terminals.specs.Position.{tokens_left}
use Rattle.ir_phrases.specs.Instructions.Dropped.{function_attributes_row}
use Rattle.ir_phrases.proofs.instructions.attributes.function_attributes.Given as goal

abbrev pub invariant-attributes : goal.invariant-attributes
invariant-attributes l = record {
  so_far : function_attributes_row.run (tokens_left l.cursor) ≡ function_attributes_row.run (tokens_left l.fn.cursor);
  limits : l.cursor.limits ≡ l.fn.cursor.limits;
  text : l.cursor.text ≡ l.fn.cursor.text;
}

abbrev pub decreases-attributes : goal.decreases-attributes
decreases-attributes l = length (tokens_left l.cursor)
