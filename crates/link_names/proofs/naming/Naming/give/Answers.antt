use Rattle.link_names.proofs.Hints.{hints_in_front}
use Rattle.link_names.proofs.naming.Naming.give.Goals as goal

pub invariant_of-self : goal.invariant_of-self
invariant_of-self c =
    let inside = c.self.inside in
    hints_in_front c.add.result inside.next.entries inside.given.keys c.add.new.names.keys inside.avoided.keys c.args.name.now c.add.ensures.ok c.add.ensures.err c.self.invariant
