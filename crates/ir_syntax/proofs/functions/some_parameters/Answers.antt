use Rattle.std.proofs.Common.{◌≡◌, sym, subst, ◌∙◌}
use Rattle.ir_terminals.specs.Position.{tokens_left}
use Rattle.ir_terminals.specs.declared.limits.Limits.{Limits}
use Rattle.ir_syntax.specs.Functions.{more_parameters_row, some_parameters_row}
use Rattle.ir_syntax.specs.View.{parameters_view}
use Rattle.ir_syntax.proofs.Loops.{parameters_next, parameters_less}
use Rattle.ir_syntax.proofs.functions.some_parameters.Goals as goal

pub parameters-smaller : goal.parameters-smaller
parameters-smaller c =
    parameters_less c.args.may_end_in_dots c.parameters.cursor.limits (parameters_view c.parameters.all) (parameters_view c.in_ok-all.all) (tokens_left c.parameters.cursor) (tokens_left c.one_more.new.cursor) c.in_ok-all.ensures.0

pub parameters-preserved : goal.parameters-preserved
parameters-preserved c = record {
  so_far =
      (let n = parameters_next c.args.may_end_in_dots c.parameters.cursor.limits (parameters_view c.parameters.all) (parameters_view c.in_ok-all.all) (tokens_left c.parameters.cursor) (tokens_left c.one_more.new.cursor) (sym c.is_class_next.ensures ∙ c.parameters-test.true) c.in_ok-all.ensures.0 in
      subst
      (λ (limits : Limits). (more_parameters_row c.args.may_end_in_dots limits (parameters_view c.in_ok-all.all)).run (tokens_left c.one_more.new.cursor) ≡ (some_parameters_row c.args.may_end_in_dots c.args.cursor.now.limits).run (tokens_left c.args.cursor.now))
      (sym c.in_ok-all.ensures.1) (sym n ∙ c.parameters.invariant.so_far));
  limits = c.in_ok-all.ensures.1 ∙ c.parameters.invariant.limits;
  text = c.in_ok-all.ensures.2 ∙ c.parameters.invariant.text;
}
