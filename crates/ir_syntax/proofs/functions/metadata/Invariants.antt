use Rattle.std.proofs.Common.{◌≡◌, length}
use Rattle.ir_terminals.specs.Position.{tokens_left}
use Rattle.ir_syntax.specs.Functions.{metadata_row}
use Rattle.ir_syntax.proofs.functions.metadata.Given as goal

abbrev pub invariant-metadata : goal.invariant-metadata
invariant-metadata l = record {
  so_far : metadata_row.run (tokens_left l.cursor) ≡ metadata_row.run (tokens_left l.fn.cursor);
  limits : l.cursor.limits ≡ l.fn.cursor.limits;
  text : l.cursor.text ≡ l.fn.cursor.text;
}

abbrev pub decreases-metadata : goal.decreases-metadata
decreases-metadata l = length (tokens_left l.cursor)
