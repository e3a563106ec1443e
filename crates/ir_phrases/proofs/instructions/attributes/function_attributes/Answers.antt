use Rattle.std.proofs.Common.{sym, ◌∙◌}
use Rattle.ir_terminals.specs.Position.{tokens_left}
use Rattle.ir_phrases.proofs.OnInstructions.Loops.{function_attributes_next, function_attributes_less}
use Rattle.ir_phrases.proofs.instructions.attributes.function_attributes.Goals as goal

pub attributes-smaller : goal.attributes-smaller
attributes-smaller c = function_attributes_less (tokens_left c.attributes.cursor) (tokens_left c.function_attribute.new.cursor) c.in_ok-function_attribute.ensures.0

pub attributes-preserved : goal.attributes-preserved
attributes-preserved c = record {
  so_far =
      sym (function_attributes_next (tokens_left c.attributes.cursor) (tokens_left c.function_attribute.new.cursor) (sym c.is_function_attribute_next.ensures ∙ c.attributes-test.true) c.in_ok-function_attribute.ensures.0)
      ∙ c.attributes.invariant.so_far;
  limits = c.in_ok-function_attribute.ensures.1 ∙ c.attributes.invariant.limits;
  text = c.in_ok-function_attribute.ensures.2 ∙ c.attributes.invariant.text;
}
