use Rattle.linkage_rules.proofs.OnResolving.VariableExtents.{plain_extent}
use Rattle.linkage_rules.proofs.resolving.extent.extent_of.Goals as goal

pub returns-in-Function : goal.returns-in-Function
returns-in-Function c = plain_extent c.args.parts.now c.args.id c.requires.entry c.in-Function.is
