use Rattle.std.proofs.Common.{◌≡◌, List, length, drop, refl, ap, sym, subst, ◌∙◌, arith}
use Rattle.std.proofs.lemmas.Bool.Decides.{nat_tests}
use Rattle.ir_eval.specs.declared.value.Scalar.{Scalar}
use Rattle.run_actions.specs.Stack.Origins.{moved}
use Rattle.run_actions.specs.Stack.Pool.{IsPool, at_place}
use Rattle.run_actions.specs.Stack.UnderWay.{UnderWay}
use Rattle.run_actions.proofs.OnStack.Changes.{pool_alike, pool_as_long, put_back}
use Rattle.run_actions.proofs.OnStack.Assigned.{length_moved}
use Rattle.run_actions.proofs.OnStack.Seen.{seen_alike, first_seen, moves_seen, followed_seen, followed_none_seen}
use Rattle.run_actions.proofs.stack.stack.Stack.follow.Goals as goal

pub assign-requires-clause-there : goal.assign-requires-clause-there
assign-requires-clause-there c =
    let s = c.self.inside in
    rw c.deref_mut.ensures.value (first_seen s.leaves.items s.allocas.items s.top s.below.items (length s.scratch.items) c.args.self.now c.self.view_is c.self.invariant)

pub assign-requires-clause-within : goal.assign-requires-clause-within
assign-requires-clause-within c =
    let s = c.self.inside in
    rw c.deref_mut.ensures.value (moves_seen s.leaves.items s.allocas.items s.top s.below.items (length s.scratch.items) c.args.self.now c.self.view_is c.self.invariant c.args.moves.now c.requires.within)

pub assign-requires-clause-room : goal.assign-requires-clause-room
assign-requires-clause-room c =
    rw c.deref_mut-2.ensures.value (omega (arith, c.requires.room, ap (λ (u : UnderWay). u.widest) c.self.view_is))

pub invariant_of-self : goal.invariant_of-self
invariant_of-self c =
    let s = c.self.inside in
    rw c.stand.ensures (pool_alike (length s.leaves.items) (length s.allocas.items) s.top _ s.below.items refl refl c.self.invariant)

pub invariant_of-self-2 : goal.invariant_of-self-2
invariant_of-self-2 c =
    let s = c.self.inside in
    let assigned : c.assign.new.leaves ≡ moved s.top.first (drop s.top.first s.leaves.items) c.args.moves.now s.leaves.items = rw c.deref_mut.ensures.value at c.assign.ensures.assigned in
    let long : length c.assign.new.leaves ≡ length s.leaves.items = ap length assigned ∙ length_moved s.top.first (drop s.top.first s.leaves.items) c.args.moves.now s.leaves.items in
    let there = at_place s.top c.args.block c.args.position in
    rw c.stand-2.ensures
    (subst (λ (l : List Scalar). IsPool (length l) (length s.allocas.items) there s.below.items)
    (sym (put_back _ c.assign.new.leaves s.leaves.items long (omega (arith, s.leaves.ok.0))))
    (pool_as_long (length s.leaves.items) _ (length s.allocas.items) there s.below.items long (pool_alike (length s.leaves.items) (length s.allocas.items) s.top there s.below.items refl refl c.self.invariant)))

pub returns-then-is_empty : goal.returns-then-is_empty
returns-then-is_empty c =
    let s = c.self.inside in
    rw c.stand.ensures (followed_none_seen s.leaves.items s.allocas.items s.top s.below.items (length s.scratch.items) c.args.self.now c.self.view_is c.args.block c.args.position c.args.moves.now (grind (arith, nat_tests)))

pub returns : goal.returns
returns c =
    let s = c.self.inside in
    let assigned : c.assign.new.leaves ≡ moved s.top.first (drop s.top.first s.leaves.items) c.args.moves.now s.leaves.items = rw c.deref_mut.ensures.value at c.assign.ensures.assigned in
    let long : length c.assign.new.leaves ≡ length s.leaves.items = ap length assigned ∙ length_moved s.top.first (drop s.top.first s.leaves.items) c.args.moves.now s.leaves.items in
    let wide : length c.assign.new.scratch ≡ length s.scratch.items = rw c.deref_mut-2.ensures.value at c.assign.ensures.long in
    seen_alike s.allocas.items s.below.items
    (put_back _ c.assign.new.leaves s.leaves.items long (omega (arith, s.leaves.ok.0)) ∙ assigned)
    c.stand-2.ensures
    (ap length (put_back _ c.assign.new.scratch s.scratch.items wide (omega (arith, s.scratch.ok.0))) ∙ wide)
    ∙ followed_seen s.leaves.items s.allocas.items s.top s.below.items (length s.scratch.items) c.args.self.now c.self.view_is c.args.block c.args.position c.args.moves.now
