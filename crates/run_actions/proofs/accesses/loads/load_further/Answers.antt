use Rattle.std.proofs.Common.{◌≡◌, ◌+◌, ◌≤◌, List, length, ap, sym, subst, arith}
use Rattle.run_rules.specs.Action.{Load}
use Rattle.run_rules.specs.Leaves.{Slot}
use Rattle.run_actions.specs.Stack.Origins.{origin_of}
use Rattle.run_actions.specs.Stack.UnderWay.{newest}
use Rattle.run_actions.specs.Accesses.Done.{Accesses}
use Rattle.run_actions.proofs.accesses.loads.load_further.Goals as goal

pub load_pointer-requires-clause-place : goal.load_pointer-requires-clause-place
load_pointer-requires-clause-place c =
    let a = c.args in
    let one : length a.slots.now ≡ 1 = ap length c.in-Some.ensures.0 in
    let there : a.to + length a.slots.now ≤ length (newest a.stack.now.frames).leaves = c.requires.places (omega (arith, one)) in
    omega (arith, there, one)

pub returns-in-Some-clause-loads : goal.returns-in-Some-clause-loads
returns-in-Some-clause-loads c =
    let a = c.args in
    subst (λ (slots : List Slot). Accesses {T = Unit {0}} (Load a.to a.align (origin_of a.from.now) slots) c.load_pointer.result a.stack.now c.load_pointer.new.stack a.memory.now a.memory.now) (sym c.in-Some.ensures.0)
    c.load_pointer.ensures.loads
