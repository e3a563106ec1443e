use Rattle.std.proofs.Common.{refl, sym, ◌∙◌}
use Rattle.ir_terminals.proofs.OnPhraseRows.Values.{read_less}
use Rattle.ir_terminals.specs.Position.{tokens_left}
use Rattle.ir_phrases.specs.Instructions.View.{instruction_view}
use Rattle.ir_phrases.specs.Instructions.Instructions.{instruction_row}
use Rattle.ir_phrases.proofs.OnInstructions.Grammar.{reads_instruction}
use Rattle.ir_phrases.proofs.OnInstructions.Lists.{many_moved}
use Rattle.ir_phrases.proofs.instructions.instructions.instructions.Goals as goal

pub instructions-smaller : goal.instructions-smaller
instructions-smaller c = read_less (reads_instruction c.instructions.cursor.limits) refl (tokens_left c.instructions.cursor) (tokens_left c.instruction.new.cursor) (instruction_view c.in_ok-instruction.field-0) c.in_ok-instruction.ensures.0

pub instructions-preserved : goal.instructions-preserved
instructions-preserved c = record {
  so_far = many_moved instruction_row instruction_view reads_instruction (λ l. refl) (λ l. refl) c.instructions.cursor.limits c.instruction.new.cursor.limits c.instructions.instructions.items c.push.new.self.items c.in_ok-instruction.field-0 (tokens_left c.instructions.cursor) (tokens_left c.instruction.new.cursor) _ c.in_ok-instruction.ensures.1 c.in_ok-push.ensures.items (sym c.is_instruction_next.ensures ∙ c.instructions-test.true) c.in_ok-instruction.ensures.0 c.instructions.invariant.so_far;
  limits = c.in_ok-instruction.ensures.1 ∙ c.instructions.invariant.limits;
  text = c.in_ok-instruction.ensures.2 ∙ c.instructions.invariant.text;
}
