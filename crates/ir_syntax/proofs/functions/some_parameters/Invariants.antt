use Rattle.std.proofs.Common.{◌≡◌, length}
use Rattle.ir_terminals.specs.Position.{tokens_left}
use Rattle.ir_syntax.specs.View.{parameters_view}
use Rattle.ir_syntax.specs.Functions.{more_parameters_row, some_parameters_row}
use Rattle.ir_syntax.proofs.functions.some_parameters.Given as goal

abbrev pub invariant-parameters : goal.invariant-parameters
invariant-parameters l = record {
  so_far : (more_parameters_row l.may_end_in_dots l.cursor.limits (parameters_view l.all)).run (tokens_left l.cursor) ≡ (some_parameters_row l.may_end_in_dots l.fn.cursor.limits).run (tokens_left l.fn.cursor);
  limits : l.cursor.limits ≡ l.fn.cursor.limits;
  text : l.cursor.text ≡ l.fn.cursor.text;
}

abbrev pub decreases-parameters : goal.decreases-parameters
decreases-parameters l = length (tokens_left l.cursor)
