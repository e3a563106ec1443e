use Rattle.std.proofs.Common.{List, [], ◌∷◌, map, ap, sym, ◌∙◌}
use Rattle.ir_eval.specs.declared.value.Scalar.{Scalar}
use Rattle.ir_eval.specs.Operators.{select_of}
use Rattle.run_actions.specs.declared.values.Arm.{Arm}
use Rattle.run_actions.specs.Operands.{leaf_of}
use Rattle.run_actions.proofs.Wide.{selects}
use Rattle.run_actions.proofs.values.select.Goals as goal

pub returns-then-arms-eq1-clause-ok : goal.returns-then-arms-eq1-clause-ok
returns-then-arms-eq1-clause-ok c =
    let a = c.args in
    let value = c.select-leaf.ensures.value ∙ (λ i. select_of (c.read-chooses.ensures i) (c.read.ensures i) (c.read-then-arms-eq1.ensures i)) in
    let all = λ (xs : List Arm). map (λ x. select_of (leaf_of a.stack.now a.condition.now) (leaf_of a.stack.now x.first) (leaf_of a.stack.now x.second)) xs in
    selects a.to a.stack.now c.give.new.stack (c.select-leaf.result ∷ []) c.requires.on.running c.give.ensures a.condition.now a.arms.now (ap (λ (v : Scalar). v ∷ []) value ∙ ap all (sym c.only-arm.ensures))

pub returns-clause-ok : goal.returns-clause-ok
returns-clause-ok c =
    let a = c.args in
    selects a.to a.stack.now c.give_all.new.stack c.deref.result.now c.requires.on.running c.give_all.ensures a.condition.now a.arms.now
    (c.deref.ensures.value ∙ c.in_ok-choose_all.ensures.ok ∙ (λ i. map (λ x. select_of (c.read-chooses.ensures i) (leaf_of a.stack.now x.first) (leaf_of a.stack.now x.second)) a.arms.now))
