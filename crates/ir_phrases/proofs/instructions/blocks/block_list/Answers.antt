use Rattle.std.proofs.Common.{refl, sym, ◌∙◌}
use Rattle.ir_terminals.proofs.OnPhraseRows.Values.{read_less}
use Rattle.ir_terminals.specs.Position.{tokens_left}
use Rattle.ir_phrases.specs.Instructions.View.{block_view}
use Rattle.ir_phrases.specs.Instructions.Blocks.{block_row}
use Rattle.ir_phrases.proofs.OnInstructions.Grammar.{reads_block}
use Rattle.ir_phrases.proofs.OnInstructions.Lists.{many_moved}
use Rattle.ir_phrases.proofs.instructions.blocks.block_list.Goals as goal

pub list-smaller : goal.list-smaller
list-smaller c = read_less (reads_block c.list.cursor.limits) refl (tokens_left c.list.cursor) (tokens_left c.block-in-list.new.cursor) (block_view c.in_ok-block.field-0) c.in_ok-block.ensures.0

pub list-preserved : goal.list-preserved
list-preserved c = record {
  so_far = many_moved block_row block_view reads_block (λ l. refl) (λ l. refl) c.list.cursor.limits c.block-in-list.new.cursor.limits c.list.blocks.items c.push-in-list.new.self.items c.in_ok-block.field-0 (tokens_left c.list.cursor) (tokens_left c.block-in-list.new.cursor) _ c.in_ok-block.ensures.1 c.in_ok-push-2.ensures.items (sym c.is_block_next.ensures ∙ c.list-test.true) c.in_ok-block.ensures.0 c.list.invariant.so_far;
  limits = c.in_ok-block.ensures.1 ∙ c.list.invariant.limits;
  text = c.in_ok-block.ensures.2 ∙ c.list.invariant.text;
}
