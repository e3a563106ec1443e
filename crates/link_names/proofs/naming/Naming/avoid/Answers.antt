use Rattle.link_names.proofs.Hints.{hints_behind}
use Rattle.link_names.proofs.naming.Naming.avoid.Goals as goal

pub invariant_of-self : goal.invariant_of-self
invariant_of-self c =
    let inside = c.self.inside in
    hints_behind c.add.result inside.next.entries inside.avoided.keys c.add.new.names.keys inside.given.keys c.args.name.now c.add.ensures.ok c.add.ensures.err c.self.invariant
