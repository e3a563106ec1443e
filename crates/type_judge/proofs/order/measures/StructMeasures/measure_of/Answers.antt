use Rattle.std.proofs.Common.{ap, ◌∙◌, Option}
use Rattle.ir_phrases.specs.Constants.View.{type_view}
use Rattle.type_table.specs.declared.measure.Measure.{Measure}
use Rattle.module_arena.specs.Module.{Bytes}
use Rattle.name_rules.specs.Measured.{tree_measured}
use Rattle.name_rules.specs.Written.{type_in}
use Rattle.type_judge.proofs.order.measures.StructMeasures.measure_of.Goals as goal

pub returns : goal.returns
returns c = c.type_measure.ensures ∙ ap (λ (f : Bytes → Option Measure). tree_measured f (type_in (type_view c.args.ty.now))) (λ j name. c.requires.measures name j)
