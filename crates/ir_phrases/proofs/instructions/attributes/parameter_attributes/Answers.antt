use Rattle.std.proofs.Common.{sym, ◌∙◌}
use Rattle.ir_terminals.specs.Position.{tokens_left}
use Rattle.ir_phrases.proofs.OnInstructions.Loops.{parameter_attributes_next, parameter_attributes_less}
use Rattle.ir_phrases.proofs.instructions.attributes.parameter_attributes.Goals as goal

pub attributes-smaller : goal.attributes-smaller
attributes-smaller c = parameter_attributes_less (tokens_left c.attributes.cursor) (tokens_left c.parameter_attribute.new.cursor) c.in_ok-parameter_attribute.ensures.0

pub attributes-preserved : goal.attributes-preserved
attributes-preserved c = record {
  so_far =
      sym (parameter_attributes_next (tokens_left c.attributes.cursor) (tokens_left c.parameter_attribute.new.cursor) (sym c.is_parameter_attribute_next.ensures ∙ c.attributes-test.true) c.in_ok-parameter_attribute.ensures.0)
      ∙ c.attributes.invariant.so_far;
  limits = c.in_ok-parameter_attribute.ensures.1 ∙ c.attributes.invariant.limits;
  text = c.in_ok-parameter_attribute.ensures.2 ∙ c.attributes.invariant.text;
}
