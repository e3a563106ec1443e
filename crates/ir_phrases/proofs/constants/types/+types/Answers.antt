use Rattle.std.proofs.Common.{sym, ◌∙◌}
use Rattle.ir_terminals.specs.Position.{tokens_left}
use Rattle.ir_phrases.specs.Constants.View.{type_view}
use Rattle.ir_phrases.proofs.OnConstants.BehindComma.{types_next, types_less}
use Rattle.ir_phrases.proofs.constants.types.+types.Goals as goal

pub fields-fields-smaller : goal.fields-fields-smaller
fields-fields-smaller t c =
    types_less type_view c.take_class.new.self.limits c.args.depth c.in_ok-type_at.field-0 c.in_ok-take_class.field-0 (tokens_left c.fields.cursor) (tokens_left c.take_class.new.self) (tokens_left c.type_at-in-fields.new.cursor) c.in_ok-take_class.ensures.0 c.in_ok-type_at.ensures.0

pub fields-fields-preserved : goal.fields-fields-preserved
fields-fields-preserved t c = record {
  so_far = types_next type_view c.args.cursor.now.limits c.take_class.new.self.limits c.args.depth c.fields.fields.items _ c.in_ok-type_at.field-0 c.in_ok-take_class.field-0 (tokens_left c.fields.cursor) (tokens_left c.take_class.new.self) (tokens_left c.type_at-in-fields.new.cursor) _ (c.in_ok-take_class.ensures.1 ∙ c.fields.invariant.limits) (sym c.is_class_next.ensures ∙ c.fields-test.true) c.in_ok-take_class.ensures.0 c.in_ok-type_at.ensures.0 c.in_ok-push-2.ensures.items c.fields.invariant.so_far;
  limits = c.in_ok-type_at.ensures.1 ∙ (c.in_ok-take_class.ensures.1 ∙ c.fields.invariant.limits);
  text = c.in_ok-type_at.ensures.2 ∙ (c.in_ok-take_class.ensures.2 ∙ c.fields.invariant.text);
}
