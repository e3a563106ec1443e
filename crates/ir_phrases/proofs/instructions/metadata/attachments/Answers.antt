use Rattle.std.proofs.Common.{sym, ◌∙◌}
use Rattle.ir_terminals.specs.Position.{tokens_left}
use Rattle.ir_phrases.proofs.OnInstructions.Loops.{attachments_next, attachments_less}
use Rattle.ir_phrases.proofs.instructions.metadata.attachments.Goals as goal

pub attachments-smaller : goal.attachments-smaller
attachments-smaller c =
    attachments_less c.in_ok-take_class.field-0 (tokens_left c.attachments.cursor) (tokens_left c.take_class.new.self) (tokens_left c.attachment.new.cursor) c.in_ok-take_class.ensures.0 c.in_ok-attachment.ensures.0

pub attachments-preserved : goal.attachments-preserved
attachments-preserved c = record {
  so_far =
      sym (attachments_next c.in_ok-take_class.field-0 (tokens_left c.attachments.cursor) (tokens_left c.take_class.new.self) (tokens_left c.attachment.new.cursor) (sym c.is_class_next.ensures ∙ c.attachments-test.true) c.in_ok-take_class.ensures.0 c.in_ok-attachment.ensures.0)
      ∙ c.attachments.invariant.so_far;
  limits = c.in_ok-attachment.ensures.1 ∙ (c.in_ok-take_class.ensures.1 ∙ c.attachments.invariant.limits);
  text = c.in_ok-attachment.ensures.2 ∙ (c.in_ok-take_class.ensures.2 ∙ c.attachments.invariant.text);
}
