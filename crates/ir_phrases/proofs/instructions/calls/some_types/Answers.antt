use Rattle.std.proofs.Common.{[], ◌∷◌, sym, ◌∙◌, ap, map}
use Rattle.std.proofs.lemmas.List.{map-append}
use Rattle.ir_terminals.specs.Position.{tokens_left}
use Rattle.ir_phrases.specs.Constants.View.{type_view}
use Rattle.ir_phrases.proofs.OnInstructions.Lists.{signature_type, type_less}
use Rattle.ir_phrases.proofs.instructions.calls.some_types.Goals as goal

pub parameters-smaller : goal.parameters-smaller
parameters-smaller c =
    type_less c.parameters.cursor.limits c.take_class.new.self.limits (map type_view c.parameters.parameters.items) c.parameters.variadic (type_view c.in_ok-type_of-2.field-0) c.in_ok-take_class.field-0 (tokens_left c.parameters.cursor) (tokens_left c.take_class.new.self) (tokens_left c.type_of-else-is_class_next.new.cursor) c.in_ok-take_class.ensures.1 c.in_ok-take_class.ensures.0 c.if-variadic.false (sym c.is_class_next-in-parameters.ensures ∙ c.if-is_class_next.false) c.in_ok-type_of-2.ensures.0

pub parameters-preserved : goal.parameters-preserved
parameters-preserved c = record {
  so_far =
      sym (signature_type c.parameters.cursor.limits c.take_class.new.self.limits c.type_of-else-is_class_next.new.cursor.limits (map type_view c.parameters.parameters.items) (map type_view c.push-else-is_class_next.new.self.items) c.parameters.variadic (type_view c.in_ok-type_of-2.field-0) c.in_ok-take_class.field-0 (tokens_left c.parameters.cursor) (tokens_left c.take_class.new.self) (tokens_left c.type_of-else-is_class_next.new.cursor) c.in_ok-take_class.ensures.1 (c.in_ok-type_of-2.ensures.1 ∙ c.in_ok-take_class.ensures.1) (ap (map type_view) c.in_ok-push-2.ensures.items ∙ map-append type_view c.parameters.parameters.items (c.in_ok-type_of-2.field-0 ∷ [])) (sym c.is_class_next.ensures ∙ c.parameters-test.true) c.in_ok-take_class.ensures.0 c.if-variadic.false (sym c.is_class_next-in-parameters.ensures ∙ c.if-is_class_next.false) c.in_ok-type_of-2.ensures.0)
      ∙ c.parameters.invariant.so_far;
  limits = c.in_ok-type_of-2.ensures.1 ∙ (c.in_ok-take_class.ensures.1 ∙ c.parameters.invariant.limits);
  text = c.in_ok-type_of-2.ensures.2 ∙ (c.in_ok-take_class.ensures.2 ∙ c.parameters.invariant.text);
}
