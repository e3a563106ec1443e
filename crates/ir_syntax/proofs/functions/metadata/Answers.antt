use Rattle.std.proofs.Common.{sym, ◌∙◌}
use Rattle.ir_terminals.specs.Position.{tokens_left}
use Rattle.ir_syntax.proofs.Loops.{metadata_next, metadata_less}
use Rattle.ir_syntax.proofs.functions.metadata.Goals as goal

pub metadata-smaller : goal.metadata-smaller
metadata-smaller c = metadata_less (tokens_left c.metadata.cursor) (tokens_left c.attachment.new.cursor) c.in_ok-attachment.ensures.0

pub metadata-preserved : goal.metadata-preserved
metadata-preserved c = record {
  so_far = sym (metadata_next (tokens_left c.metadata.cursor) (tokens_left c.attachment.new.cursor) (sym c.is_class_next.ensures ∙ c.metadata-test.true) c.in_ok-attachment.ensures.0) ∙ c.metadata.invariant.so_far;
  limits = c.in_ok-attachment.ensures.1 ∙ c.metadata.invariant.limits;
  text = c.in_ok-attachment.ensures.2 ∙ c.metadata.invariant.text;
}
