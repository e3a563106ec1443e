use Rattle.std.proofs.Common.{sym, ◌∙◌}
use Rattle.ir_terminals.specs.Position.{tokens_left}
use Rattle.ir_syntax.proofs.Loops.{tails_next, tails_less}
use Rattle.ir_syntax.proofs.variables.tails.Goals as goal

pub tails-smaller : goal.tails-smaller
tails-smaller c =
    tails_less c.tails.alignment c.in_ok-alignment.alignment c.in_ok-take_class.field-0 (tokens_left c.tails.cursor) (tokens_left c.take_class.new.self) (tokens_left c.tail.new.cursor) c.in_ok-take_class.ensures.0 c.in_ok-alignment.ensures.0

pub tails-preserved : goal.tails-preserved
tails-preserved c = record {
  so_far = sym (tails_next c.tails.alignment c.in_ok-alignment.alignment c.in_ok-take_class.field-0 (tokens_left c.tails.cursor) (tokens_left c.take_class.new.self) (tokens_left c.tail.new.cursor) (sym c.is_class_next.ensures ∙ c.tails-test.true) c.in_ok-take_class.ensures.0 c.in_ok-alignment.ensures.0) ∙ c.tails.invariant.so_far;
  limits = c.in_ok-alignment.ensures.1 ∙ (c.in_ok-take_class.ensures.1 ∙ c.tails.invariant.limits);
  text = c.in_ok-alignment.ensures.2 ∙ (c.in_ok-take_class.ensures.2 ∙ c.tails.invariant.text);
}
