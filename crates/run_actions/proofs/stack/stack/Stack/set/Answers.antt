use Rattle.std.proofs.Common.{◌+◌, length, arith}
use Rattle.std.proofs.lemmas.List.{length-set}
use Rattle.run_actions.proofs.OnStack.Changes.{pool_as_long}
use Rattle.run_actions.proofs.OnStack.Seen.{place_seen, set_seen}
use Rattle.run_actions.proofs.stack.stack.Stack.set.Goals as goal

pub overflow_add-self-inside : goal.overflow_add-self-inside
overflow_add-self-inside c =
    let s = c.self.inside in
    let within = place_seen s.leaves.items s.allocas.items s.top s.below.items (length s.scratch.items) c.args.self.now c.self.view_is c.self.invariant c.args.to c.requires in
    omega (arith, within, s.leaves.ok.0)

pub index_mut-requires : goal.index_mut-requires
index_mut-requires c =
    let s = c.self.inside in
    let within = place_seen s.leaves.items s.allocas.items s.top s.below.items (length s.scratch.items) c.args.self.now c.self.view_is c.self.invariant c.args.to c.requires in
    omega (arith, within, s.leaves.ok.0)

pub invariant_of-self : goal.invariant_of-self
invariant_of-self c =
    let s = c.self.inside in
    pool_as_long (length s.leaves.items) _ (length s.allocas.items) s.top s.below.items (length-set s.leaves.items (s.top.first + c.args.to) c.args.leaf) c.self.invariant

pub returns : goal.returns
returns c =
    let s = c.self.inside in
    set_seen s.leaves.items s.allocas.items s.top s.below.items (length s.scratch.items) c.args.self.now c.self.view_is c.args.to c.args.leaf c.requires
