use Rattle.std.proofs.Common.{◌≡◌, ap, sym, subst, ◌∙◌, List, map, Ok}
use Rattle.std.specs.Prelude.{zip}
use Rattle.ir_eval.specs.declared.value.Scalar.{Scalar}
use Rattle.ir_eval.specs.declared.value.Scalar.TheVariants.{Int, Ptr}
use Rattle.run_rules.specs.Access.{stored_value}
use Rattle.run_rules.specs.Leaves.{Slot}
use Rattle.run_actions.specs.Operands.{leaf_of}
use Rattle.run_actions.proofs.OnAccesses.Storing.{alone}
use Rattle.run_actions.proofs.accesses.stores.put_integer.Goals as goal

pub returns-clause-stored : goal.returns-clause-stored
returns-clause-stored c = λ done.
    let a = c.args in
    let whole = alone a.stack.now a.slots.now a.value.now c.only.result c.one_leaf.result.now (Int c.in-Int.number) c.only.ensures c.one_leaf.ensures c.in-Int.ensures in
    ap (λ (v : Scalar). stored_value v a.align (zip a.slots.now (map (leaf_of a.stack.now) a.value.now)) a.memory.now) c.in-Ptr.is
    ∙ subst (λ (value : List (Slot × Scalar)). stored_value (Ptr c.in-Ptr.pointer) a.align value a.memory.now ≡ Ok c.store_plain.new.memory) (sym whole) (c.store_plain.ensures.stored done)
