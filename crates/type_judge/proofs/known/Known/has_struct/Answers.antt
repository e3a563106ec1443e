use Rattle.std.proofs.Common.{ap, ◌∙◌}
use Rattle.type_table.specs.Tree.{Structs}
use Rattle.name_rules.specs.Measured.{names_of}
use Rattle.name_rules.specs.TypeDemands.{has_name}
use Rattle.type_judge.specs.Gathered.{IsKnown}
use Rattle.type_judge.proofs.known.Known.has_struct.Goals as goal

pub has-requires : goal.has-requires
unfolding IsKnown
has-requires c = c.requires.measured

pub returns : goal.returns
unfolding IsKnown
returns c = c.has.ensures ∙ ap (λ (ss : Structs). has_name (names_of ss) c.args.name.now) c.requires.structs
