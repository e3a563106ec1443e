use Rattle.std.proofs.Common.{◌≡◌, ◌≤◌, List, length, subst, sym, arith}
use Rattle.ir_eval.specs.declared.value.Pointer.{Pointer}
use Rattle.run_actions.specs.Stack.Pool.{IsPool, seen}
use Rattle.run_actions.specs.Stack.UnderWay.{UnderWay, IsRunning}
use Rattle.run_actions.proofs.OnStack.Allocas.{pool_less, first_alloca_within, rest_reaches}
use Rattle.run_actions.proofs.OnStack.Seen.{one_less_seen, last_seen, none_less_seen, none_last_seen}
use Rattle.run_actions.proofs.stack.stack.Stack.pop_alloca.Goals as goal

pub returns-then-len-self-clause-last : goal.returns-then-len-self-clause-last
returns-then-len-self-clause-last c =
    let s = c.self.inside in
    none_last_seen s.leaves.items s.allocas.items s.top s.below.items (length s.scratch.items) c.args.self.now c.self.view_is (omega (arith, s.allocas.ok.0))

pub returns-then-len-self-clause-others : goal.returns-then-len-self-clause-others
returns-then-len-self-clause-others c =
    let s = c.self.inside in
    none_less_seen s.leaves.items s.allocas.items s.top s.below.items (length s.scratch.items) c.args.self.now c.self.view_is (omega (arith, s.allocas.ok.0))

pub unreachable-requires : goal.unreachable-requires
unreachable-requires c =
    let s = c.self.inside in
    let before : s.top.allocas ≤ length s.allocas.items = first_alloca_within s.leaves.items s.allocas.items s.top s.below.items (subst (λ (u : UnderWay). IsRunning u.frames) (sym c.self.view_is) c.requires) c.self.invariant in
    omega (arith, c.if-len-self.false, c.len.ensures, c.in-None.ensures.cases.0, s.allocas.ok.0)

pub invariant_of-self : goal.invariant_of-self
invariant_of-self c =
    let s = c.self.inside in
    let before : s.top.allocas ≤ length s.allocas.items = first_alloca_within s.leaves.items s.allocas.items s.top s.below.items (subst (λ (u : UnderWay). IsRunning u.frames) (sym c.self.view_is) c.requires) c.self.invariant in
    let there = rest_reaches s.top s.allocas.items c.pop.new.self.items c.in-Some.alloca c.in-Some.ensures.items before (λ e. c.if-len-self.false (omega (arith, e, c.len.ensures, s.allocas.ok.0))) in
    pool_less s.leaves.items c.pop.new.self.items s.top s.below.items c.in-Some.alloca there
    (subst (λ (ps : List Pointer). IsPool (length s.leaves.items) (length ps) s.top s.below.items) c.in-Some.ensures.items c.self.invariant)

pub returns-clause-last : goal.returns-clause-last
returns-clause-last c =
    let s = c.self.inside in
    let before : s.top.allocas ≤ length s.allocas.items = first_alloca_within s.leaves.items s.allocas.items s.top s.below.items (subst (λ (u : UnderWay). IsRunning u.frames) (sym c.self.view_is) c.requires) c.self.invariant in
    let there = rest_reaches s.top s.allocas.items c.pop.new.self.items c.in-Some.alloca c.in-Some.ensures.items before (λ e. c.if-len-self.false (omega (arith, e, c.len.ensures, s.allocas.ok.0))) in
    last_seen s.leaves.items c.pop.new.self.items c.in-Some.alloca s.top s.below.items (length s.scratch.items) c.args.self.now
    (subst (λ (ps : List Pointer). seen s.leaves.items ps s.top s.below.items (length s.scratch.items) ≡ c.args.self.now) c.in-Some.ensures.items c.self.view_is)
    there c.requires

pub returns-clause-others : goal.returns-clause-others
returns-clause-others c =
    let s = c.self.inside in
    let before : s.top.allocas ≤ length s.allocas.items = first_alloca_within s.leaves.items s.allocas.items s.top s.below.items (subst (λ (u : UnderWay). IsRunning u.frames) (sym c.self.view_is) c.requires) c.self.invariant in
    let there = rest_reaches s.top s.allocas.items c.pop.new.self.items c.in-Some.alloca c.in-Some.ensures.items before (λ e. c.if-len-self.false (omega (arith, e, c.len.ensures, s.allocas.ok.0))) in
    one_less_seen s.leaves.items c.pop.new.self.items c.in-Some.alloca s.top s.below.items (length s.scratch.items) c.args.self.now
    (subst (λ (ps : List Pointer). seen s.leaves.items ps s.top s.below.items (length s.scratch.items) ≡ c.args.self.now) c.in-Some.ensures.items c.self.view_is)
    there
