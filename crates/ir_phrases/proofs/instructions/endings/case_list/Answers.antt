use Rattle.std.proofs.Common.{refl, sym, ◌∙◌}
use Rattle.ir_terminals.proofs.OnPhraseRows.Values.{read_less}
use Rattle.ir_terminals.specs.Position.{tokens_left}
use Rattle.ir_phrases.specs.Instructions.View.{case_view}
use Rattle.ir_phrases.specs.Instructions.Endings.{case_row}
use Rattle.ir_phrases.proofs.OnInstructions.Grammar.{reads_case}
use Rattle.ir_phrases.proofs.OnInstructions.Lists.{many_moved}
use Rattle.ir_phrases.proofs.instructions.endings.case_list.Goals as goal

pub cases-smaller : goal.cases-smaller
cases-smaller c = read_less (reads_case c.cases.cursor.limits) refl (tokens_left c.cases.cursor) (tokens_left c.case.new.cursor) (case_view c.in_ok-case.field-0) c.in_ok-case.ensures.0

pub cases-preserved : goal.cases-preserved
cases-preserved c = record {
  so_far = many_moved case_row case_view reads_case (λ l. refl) (λ l. refl) c.cases.cursor.limits c.case.new.cursor.limits c.cases.cases.items c.push.new.self.items c.in_ok-case.field-0 (tokens_left c.cases.cursor) (tokens_left c.case.new.cursor) _ c.in_ok-case.ensures.1 c.in_ok-push.ensures.items (sym c.begins_type.ensures ∙ c.cases-test.true) c.in_ok-case.ensures.0 c.cases.invariant.so_far;
  limits = c.in_ok-case.ensures.1 ∙ c.cases.invariant.limits;
  text = c.in_ok-case.ensures.2 ∙ c.cases.invariant.text;
}
