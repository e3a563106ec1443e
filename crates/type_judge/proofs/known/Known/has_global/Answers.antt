use Rattle.std.proofs.Common.{◌∙◌}
use Rattle.type_judge.specs.Gathered.{IsKnown}
use Rattle.type_judge.proofs.known.Known.has_global.Goals as goal

pub returns : goal.returns
unfolding IsKnown
returns c = c.contains.ensures ∙ c.requires.globals.names.each c.args.name.now
