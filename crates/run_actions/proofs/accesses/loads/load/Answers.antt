use Rattle.std.proofs.Common.{◌≡◌, ◌+◌, ◌≤◌, [], ◌∷◌, length, ap, ◌∙◌, sym, arith}
use Rattle.ir_eval.specs.declared.value.Scalar.TheVariants.{Int}
use Rattle.run_rules.specs.Access.{loaded_value}
use Rattle.run_actions.specs.Stack.UnderWay.{newest}
use Rattle.run_actions.proofs.OnAccesses.Loading.{loaded, value_long}
use Rattle.run_actions.proofs.accesses.loads.load.Goals as goal

pub give-requires-clause-place : goal.give-requires-clause-place
give-requires-clause-place c =
    let a = c.args in
    let one : 1 ≡ length a.slots.now = value_long a.memory.now c.read-place.result a.align a.slots.now (Int c.in-Some.number ∷ []) c.in-Some.ensures in
    let there : a.to + length a.slots.now ≤ length (newest a.stack.now.frames).leaves = c.requires.places (omega (arith, one)) in
    omega (arith, there, one)

pub returns-in-Some-clause-loads : goal.returns-in-Some-clause-loads
returns-in-Some-clause-loads c =
    let a = c.args in
    loaded a.to a.align a.address.now a.slots.now a.stack.now c.give.new.stack a.memory.now (Int c.in-Some.number ∷ []) c.requires.on.running c.give.ensures
    (ap (λ v. loaded_value a.memory.now v a.align a.slots.now) (sym c.read-place.ensures) ∙ c.in-Some.ensures)
