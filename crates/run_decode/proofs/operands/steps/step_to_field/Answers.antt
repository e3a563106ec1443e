use Rattle.std.proofs.Common.{ℕ, unwrap_or, ap, sym, ◌∙◌}
use Rattle.ir_eval.specs.declared.value.Scalar.TheVariants as scalar
use Rattle.run_rules.specs.Action as actions
use Rattle.run_names.specs.Shapes.Shapes.{offset_in, shape_in}
use Rattle.run_decode.specs.Operands.Steps.{index_at}
use Rattle.run_decode.proofs.OnOperands.Stepped.{nowhere, to_field}
use Rattle.run_decode.proofs.operands.steps.step_to_field.Goals as goal

pub returns-in-true-clause-term : goal.returns-in-true-clause-term
returns-in-true-clause-term c = λ width.
    let s = shape_in c.args.types.now c.args.ty in
    let bytes = c.element_offset.ensures ∙ ap (λ (n : ℕ). unwrap_or (offset_in s n) 0) c.number_of.ensures in
    c.known_step.ensures.term ∙ (λ j. record { index = actions.Known (scalar.Int (bytes j)); width = 64; size = 1 }) ∙ to_field s (index_at c.args.index width) (sym c.in-true.ensures)

pub returns-in-false-clause-term : goal.returns-in-false-clause-term
returns-in-false-clause-term c = λ width.
    let s = shape_in c.args.types.now c.args.ty in
    c.known_step-in-false.ensures.term ∙ nowhere s (index_at c.args.index width) c.requires.none (sym c.in-false.ensures)
