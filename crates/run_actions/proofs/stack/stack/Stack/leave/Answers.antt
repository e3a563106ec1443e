use Rattle.std.proofs.Common.{length, ap, sym, arith}
use Rattle.run_rules.specs.State.{Frame}
use Rattle.run_actions.proofs.OnStack.Calls.{left_within}
use Rattle.run_actions.proofs.OnStack.Seen.{newest_seen, left_seen, some_seen}
use Rattle.run_actions.proofs.stack.stack.Stack.leave.Goals as goal

-- `c.pop.ensures.items` says that the marks below were the ones that are left, and the caller's behind them
pub invariant_of-self : goal.invariant_of-self
invariant_of-self c =
    let s = c.self.inside in
    rw (c.truncate.ensures.items, c.truncate-2.ensures.items)
    (left_within s.leaves.items s.allocas.items s.top c.in-Some.caller s.below.items c.pop.new.self.items c.in-Some.ensures.items c.self.invariant)

pub returns-clause-to : goal.returns-clause-to
returns-clause-to c =
    let s = c.self.inside in
    sym (ap (λ (f : Frame). f.to) (newest_seen s.leaves.items s.allocas.items s.top s.below.items (length s.scratch.items) c.args.self.now c.self.view_is c.requires))

pub returns-clause-left : goal.returns-clause-left
returns-clause-left c =
    let s = c.self.inside in
    rw (c.truncate.ensures.items, c.truncate-2.ensures.items) (left_seen s.leaves.items s.allocas.items s.top s.below.items (length s.scratch.items) c.args.self.now c.self.view_is c.in-Some.caller c.pop.new.self.items c.in-Some.ensures.items)

-- where a function is under way, a mark stands below its own
pub unreachable-requires : goal.unreachable-requires
unreachable-requires c =
    let s = c.self.inside in
    some_seen s.leaves.items s.allocas.items s.top s.below.items (length s.scratch.items) c.args.self.now c.self.view_is c.requires (omega (arith, c.in-None.ensures.cases.0, s.below.ok.0))
