use Rattle.std.proofs.Common.{ap, ◌∙◌}
use Rattle.type_table.specs.Measures.{array_measure}
use Rattle.name_rules.specs.Written.{natural}
use Rattle.type_judge.proofs.OnOrder.Fields.{cut_length}
use Rattle.type_judge.proofs.order.measures.array_measure.Goals as goal

pub returns : goal.returns
returns c = c.array.ensures ∙ ap (λ n. array_measure n c.args.element) c.array_length.ensures ∙ cut_length (natural c.args.count.now) c.args.element
