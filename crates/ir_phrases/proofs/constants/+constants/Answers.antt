use Rattle.std.proofs.Common.{sym, ◌∙◌}
use Rattle.ir_terminals.specs.Position.{tokens_left}
use Rattle.ir_phrases.specs.Constants.View.{typed_constant_view}
use Rattle.ir_phrases.proofs.OnConstants.BehindComma.{elements_next, elements_less}
use Rattle.ir_phrases.proofs.constants.+constants.Goals as goal

pub constants::elements-elements-smaller : goal.constants::elements-elements-smaller
constants::elements-elements-smaller t c =
    elements_less typed_constant_view c.take_class.new.self.limits c.args.depth c.in_ok-typed_at.field-0 c.in_ok-take_class.field-0 (tokens_left c.elements.cursor) (tokens_left c.take_class.new.self) (tokens_left c.typed_at-in-elements.new.cursor) c.in_ok-take_class.ensures.0 c.in_ok-typed_at.ensures.0

pub constants::elements-elements-preserved : goal.constants::elements-elements-preserved
constants::elements-elements-preserved t c = record {
  so_far = elements_next typed_constant_view c.args.cursor.now.limits c.take_class.new.self.limits c.args.depth c.elements.elements.items _ c.in_ok-typed_at.field-0 c.in_ok-take_class.field-0 (tokens_left c.elements.cursor) (tokens_left c.take_class.new.self) (tokens_left c.typed_at-in-elements.new.cursor) _ (c.in_ok-take_class.ensures.1 ∙ c.elements.invariant.limits) (sym c.is_class_next.ensures ∙ c.elements-test.true) c.in_ok-take_class.ensures.0 c.in_ok-typed_at.ensures.0 c.in_ok-push-2.ensures.items c.elements.invariant.so_far;
  limits = c.in_ok-typed_at.ensures.1 ∙ (c.in_ok-take_class.ensures.1 ∙ c.elements.invariant.limits);
  text = c.in_ok-typed_at.ensures.2 ∙ (c.in_ok-take_class.ensures.2 ∙ c.elements.invariant.text);
}

pub expressions::operands-operands-smaller : goal.expressions::operands-operands-smaller
expressions::operands-operands-smaller t c =
    elements_less typed_constant_view c.take_class.new.self.limits c.args.depth c.in_ok-typed_at-2.field-0 c.in_ok-take_class.field-0 (tokens_left c.operands.cursor) (tokens_left c.take_class.new.self) (tokens_left c.typed_at-in-operands.new.cursor) c.in_ok-take_class.ensures.0 c.in_ok-typed_at-2.ensures.0

pub expressions::operands-operands-preserved : goal.expressions::operands-operands-preserved
expressions::operands-operands-preserved t c = record {
  so_far = elements_next typed_constant_view c.args.cursor.now.limits c.take_class.new.self.limits c.args.depth c.operands.operands.items _ c.in_ok-typed_at-2.field-0 c.in_ok-take_class.field-0 (tokens_left c.operands.cursor) (tokens_left c.take_class.new.self) (tokens_left c.typed_at-in-operands.new.cursor) _ (c.in_ok-take_class.ensures.1 ∙ c.operands.invariant.limits) (sym c.is_class_next.ensures ∙ c.operands-test.true) c.in_ok-take_class.ensures.0 c.in_ok-typed_at-2.ensures.0 c.in_ok-push-2.ensures.items c.operands.invariant.so_far;
  limits = c.in_ok-typed_at-2.ensures.1 ∙ (c.in_ok-take_class.ensures.1 ∙ c.operands.invariant.limits);
  text = c.in_ok-typed_at-2.ensures.2 ∙ (c.in_ok-take_class.ensures.2 ∙ c.operands.invariant.text);
}
