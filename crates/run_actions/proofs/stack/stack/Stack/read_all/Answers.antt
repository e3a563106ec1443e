use Rattle.std.proofs.Common.{◌≡◌, ◌++◌, List, length, subst, OnOk}
use Rattle.ir_eval.specs.declared.value.Scalar.{Scalar}
use Rattle.run_actions.proofs.OnStack.Seen.{first_seen, all_in_seen, read_all_seen}
use Rattle.run_actions.proofs.stack.stack.Stack.read_all.Goals as goal

pub read_into-requires-clause-there : goal.read_into-requires-clause-there
read_into-requires-clause-there c =
    let s = c.self.inside in
    rw c.deref.ensures.value (first_seen s.leaves.items s.allocas.items s.top s.below.items (length s.scratch.items) c.args.self.now c.self.view_is c.self.invariant)

pub read_into-requires-clause-within : goal.read_into-requires-clause-within
read_into-requires-clause-within c =
    let s = c.self.inside in
    rw c.deref.ensures.value (all_in_seen s.leaves.items s.allocas.items s.top s.below.items (length s.scratch.items) c.args.self.now c.self.view_is c.self.invariant c.args.origins.now c.requires)

pub returns-clause-ok : goal.returns-clause-ok
returns-clause-ok c =
    let s = c.self.inside in
    subst (λ (vs : List Scalar). OnOk c.read_into.result (c.read_into.new.into.items ≡ c.args.into.now.items ++ vs))
    (read_all_seen s.leaves.items s.allocas.items s.top s.below.items (length s.scratch.items) c.args.self.now c.self.view_is c.self.invariant c.args.origins.now)
    (rw c.deref.ensures.value at c.read_into.ensures.ok)
