use Rattle.std.proofs.Common.{sym, ◌∙◌}
use Rattle.ir_terminals.specs.Position.{tokens_left}
use Rattle.ir_syntax.proofs.Loops.{global_words_next, global_words_less}
use Rattle.ir_syntax.proofs.heads.global_words.Goals as goal

pub words-smaller : goal.words-smaller
words-smaller c = global_words_less (tokens_left c.words.cursor) (tokens_left c.global_word.new.cursor) c.in_ok-global_word.ensures.0

pub words-preserved : goal.words-preserved
words-preserved c = record {
  so_far = sym (global_words_next (tokens_left c.words.cursor) (tokens_left c.global_word.new.cursor) (sym c.is_global_word_next.ensures ∙ c.words-test.true) c.in_ok-global_word.ensures.0) ∙ c.words.invariant.so_far;
  limits = c.in_ok-global_word.ensures.1 ∙ c.words.invariant.limits;
  text = c.in_ok-global_word.ensures.2 ∙ c.words.invariant.text;
}
