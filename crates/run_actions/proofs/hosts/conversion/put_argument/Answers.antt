use Rattle.run_rules.specs.Printing.{converted}
use Rattle.run_actions.proofs.OnHosts.Put.{argument_put}
use Rattle.run_actions.proofs.hosts.conversion.put_argument.Goals as goal

pub returns : goal.returns
returns c =
    let put = c.put_converted in
    argument_put c.args.conversion.now c.args.kind c.leaf_for.result c.is_leaf.result (converted c.args.memory.now c.args.conversion.now c.args.argument) c.args.written.now.items put.new.written.items put.result c.leaf_for.ensures
    c.is_leaf.ensures c.if-not-is_leaf.false put.ensures.ok put.ensures.err put.ensures.why
