use Rattle.std.proofs.Common.{List, [], ◌∷◌, map, ap, sym, ◌∙◌}
use Rattle.ir_eval.specs.declared.value.Scalar.{Scalar}
use Rattle.ir_eval.specs.Operators.{freeze_of}
use Rattle.run_actions.specs.declared.values.FrozenLeaf.{FrozenLeaf}
use Rattle.run_actions.specs.Operands.{leaf_of}
use Rattle.run_actions.proofs.Wide.{freezes}
use Rattle.run_actions.proofs.values.freeze.Goals as goal

pub returns-then-value-eq1-clause-ok : goal.returns-then-value-eq1-clause-ok
returns-then-value-eq1-clause-ok c =
    let a = c.args in
    let value = c.freeze-leaf.ensures.value ∙ (λ i. freeze_of c.only-part.result.pointer (c.read.ensures i)) in
    let all = λ (xs : List FrozenLeaf). map (λ p. freeze_of p.pointer (leaf_of a.stack.now p.value)) xs in
    freezes a.to a.stack.now c.give.new.stack (c.freeze-leaf.result ∷ []) c.requires.on.running c.give.ensures a.value.now (ap (λ (v : Scalar). v ∷ []) value ∙ ap all (sym c.only-part.ensures))

pub returns-clause-ok : goal.returns-clause-ok
returns-clause-ok c =
    let a = c.args in
    freezes a.to a.stack.now c.give_all.new.stack c.deref.result.now c.requires.on.running c.give_all.ensures a.value.now (c.deref.ensures.value ∙ c.in_ok-freeze_all.ensures.ok)
