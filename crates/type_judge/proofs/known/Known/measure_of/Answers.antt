use Rattle.std.proofs.Common.{ap, ◌∙◌}
use Rattle.ir_phrases.specs.Constants.View.{type_view}
use Rattle.type_table.specs.Tree.{Structs}
use Rattle.name_rules.specs.Measured.{tree_measured, look_in, struct_measures}
use Rattle.name_rules.specs.Written.{type_in}
use Rattle.type_judge.specs.Gathered.{IsKnown}
use Rattle.type_judge.proofs.known.Known.measure_of.Goals as goal

pub measure_of-requires : goal.measure_of-requires
unfolding IsKnown
measure_of-requires c = c.requires.measured

pub returns : goal.returns
unfolding IsKnown
returns c = c.measure_of.ensures ∙ ap (λ (ss : Structs). tree_measured (look_in ss (struct_measures ss)) (type_in (type_view c.args.ty.now))) c.requires.structs
