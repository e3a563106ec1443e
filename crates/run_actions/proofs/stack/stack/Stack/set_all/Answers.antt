use Rattle.std.proofs.Common.{◌≡◌, ◌+◌, ◌<◌, ◌∙◌, List, length, ap, subst, sym, arith}
use Rattle.std.proofs.lemmas.Bool.Decides.{nat_tests}
use Rattle.ir_eval.specs.declared.value.Scalar.{Scalar}
use Rattle.run_rules.specs.Frame.{with_leaves}
use Rattle.run_actions.specs.Stack.Pool.{IsPool, seen}
use Rattle.run_actions.proofs.OnStack.Changes.{changed_none, length_with, pool_as_long, put_back}
use Rattle.run_actions.proofs.OnStack.Seen.{set_many_seen, value_seen}
use Rattle.run_actions.proofs.stack.stack.Stack.set_all.Goals as goal

-- a leaf is at hand, since the value was found not to be empty
pub overflow_add-at : goal.overflow_add-at
overflow_add-at c =
    let s = c.self.inside in
    let some : 0 < length c.args.value.now = grind (arith, nat_tests) in
    omega (arith, value_seen s.leaves.items s.allocas.items s.top s.below.items (length s.scratch.items) c.args.self.now c.self.view_is c.self.invariant c.args.to c.args.value.now some c.requires, s.leaves.ok.0)

pub write_at-requires : goal.write_at-requires
write_at-requires c =
    let s = c.self.inside in
    let some : 0 < length c.args.value.now = grind (arith, nat_tests) in
    let within = value_seen s.leaves.items s.allocas.items s.top s.below.items (length s.scratch.items) c.args.self.now c.self.view_is c.self.invariant c.args.to c.args.value.now some c.requires in
    rw c.deref_mut.ensures.value within

pub returns-then-is_empty : goal.returns-then-is_empty
returns-then-is_empty c = changed_none c.args.self.now c.args.to c.args.value.now (grind (arith, nat_tests))

pub invariant_of-self : goal.invariant_of-self
invariant_of-self c =
    let s = c.self.inside in
    let written : c.write_at.new.leaves ≡ with_leaves s.leaves.items (s.top.first + c.args.to) c.args.value.now = rw c.deref_mut.ensures.value at c.write_at.ensures in
    let long : length c.write_at.new.leaves ≡ length s.leaves.items = ap length written ∙ length_with (s.top.first + c.args.to) c.args.value.now s.leaves.items in
    subst (λ (l : List Scalar). IsPool (length l) (length s.allocas.items) s.top s.below.items)
    (sym (put_back _ c.write_at.new.leaves s.leaves.items long (omega (arith, s.leaves.ok.0))))
    (pool_as_long (length s.leaves.items) _ (length s.allocas.items) s.top s.below.items long c.self.invariant)

pub returns : goal.returns
returns c =
    let s = c.self.inside in
    let written : c.write_at.new.leaves ≡ with_leaves s.leaves.items (s.top.first + c.args.to) c.args.value.now = rw c.deref_mut.ensures.value at c.write_at.ensures in
    let long : length c.write_at.new.leaves ≡ length s.leaves.items = ap length written ∙ length_with (s.top.first + c.args.to) c.args.value.now s.leaves.items in
    ap (λ (l : List Scalar). seen l s.allocas.items s.top s.below.items (length s.scratch.items)) (put_back _ c.write_at.new.leaves s.leaves.items long (omega (arith, s.leaves.ok.0)) ∙ written)
    ∙ set_many_seen s.leaves.items s.allocas.items s.top s.below.items (length s.scratch.items) c.args.self.now c.self.view_is c.args.to c.args.value.now
