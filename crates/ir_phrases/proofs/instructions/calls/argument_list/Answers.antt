use Rattle.std.proofs.Common.{refl, sym, ◌∙◌}
use Rattle.ir_terminals.specs.PhraseRows.Row.{keep_second}
use Rattle.ir_terminals.proofs.OnPhraseRows.Values.{read_less}
use Rattle.ir_terminals.specs.declared.terminal.Terminal.TheVariants as terminal
use Rattle.ir_terminals.specs.Position.{tokens_left}
use Rattle.ir_terminals.specs.Tokens.{word}
use Rattle.ir_phrases.specs.Constants.View.{typed_value_view}
use Rattle.ir_phrases.specs.Instructions.Calls.{argument_row}
use Rattle.ir_phrases.proofs.OnInstructions.CallsGrammar.{reads_next_argument}
use Rattle.ir_phrases.proofs.OnInstructions.Lists.{many_moved, behind_comma_read}
use Rattle.ir_phrases.proofs.instructions.calls.argument_list.Goals as goal

pub arguments-smaller : goal.arguments-smaller
arguments-smaller c =
    read_less (reads_next_argument c.arguments.cursor.limits) refl (tokens_left c.arguments.cursor) (tokens_left c.argument-in-arguments.new.cursor) (typed_value_view c.in_ok-argument-2.field-0)
    (behind_comma_read argument_row c.arguments.cursor.limits c.take_class.new.self.limits (typed_value_view c.in_ok-argument-2.field-0) c.in_ok-take_class.field-0 (tokens_left c.arguments.cursor) (tokens_left c.take_class.new.self) (tokens_left c.argument-in-arguments.new.cursor) c.in_ok-take_class.ensures.1 c.in_ok-take_class.ensures.0 c.in_ok-argument-2.ensures.0)

pub arguments-preserved : goal.arguments-preserved
arguments-preserved c = record {
  so_far =
      many_moved (λ l. keep_second (word terminal.Comma) (argument_row l)) typed_value_view reads_next_argument (λ l. refl) (λ l. refl) c.arguments.cursor.limits c.argument-in-arguments.new.cursor.limits c.arguments.arguments.items c.push-in-arguments.new.self.items c.in_ok-argument-2.field-0 (tokens_left c.arguments.cursor) (tokens_left c.argument-in-arguments.new.cursor) _ (c.in_ok-argument-2.ensures.1 ∙ c.in_ok-take_class.ensures.1) c.in_ok-push-2.ensures.items (sym c.is_class_next.ensures ∙ c.arguments-test.true)
      (behind_comma_read argument_row c.arguments.cursor.limits c.take_class.new.self.limits (typed_value_view c.in_ok-argument-2.field-0) c.in_ok-take_class.field-0 (tokens_left c.arguments.cursor) (tokens_left c.take_class.new.self) (tokens_left c.argument-in-arguments.new.cursor) c.in_ok-take_class.ensures.1 c.in_ok-take_class.ensures.0 c.in_ok-argument-2.ensures.0)
      c.arguments.invariant.so_far;
  limits = c.in_ok-argument-2.ensures.1 ∙ (c.in_ok-take_class.ensures.1 ∙ c.arguments.invariant.limits);
  text = c.in_ok-argument-2.ensures.2 ∙ (c.in_ok-take_class.ensures.2 ∙ c.arguments.invariant.text);
}
