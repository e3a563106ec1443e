use Rattle.std.proofs.Common.{length, ap, ◌∙◌}
use Rattle.run_rules.specs.Frame.{read}
use Rattle.run_actions.specs.Stack.UnderWay.{newest}
use Rattle.run_actions.specs.declared.stack.origin.Origin.TheVariants.{Known}
use Rattle.run_acts.proofs.OnClasses.Reached.{there_from}
use Rattle.run_acts.proofs.classes.operand.told.Goals as goal

pub read-value-requires : goal.read-value-requires
read-value-requires c = there_from c.args.pools.now (length (newest c.args.stack.now.frames).leaves) c.origin-operand.result c.args.leaf c.origin-operand.ensures c.requires.there

pub returns : goal.returns
returns c = ap Known (c.read-value.ensures ∙ ap (read (newest c.args.stack.now.frames)) c.origin-operand.ensures)
