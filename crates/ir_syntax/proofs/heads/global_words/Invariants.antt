use Rattle.std.proofs.Common.{◌≡◌, length}
use Rattle.ir_terminals.specs.Position.{tokens_left}
use Rattle.ir_syntax.specs.Heads.{global_words_row}
use Rattle.ir_syntax.proofs.heads.global_words.Given as goal

abbrev pub invariant-words : goal.invariant-words
invariant-words l = record {
  so_far : global_words_row.run (tokens_left l.cursor) ≡ global_words_row.run (tokens_left l.fn.cursor);
  limits : l.cursor.limits ≡ l.fn.cursor.limits;
  text : l.cursor.text ≡ l.fn.cursor.text;
}

abbrev pub decreases-words : goal.decreases-words
decreases-words l = length (tokens_left l.cursor)
