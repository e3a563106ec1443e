use Rattle.std.proofs.Common.{map, ap, sym, ◌∙◌}
use Rattle.std.specs.Prelude.{zip}
use Rattle.run_rules.specs.Access.{stored_value}
use Rattle.run_actions.specs.Operands.{leaf_of}
use Rattle.run_actions.proofs.OnAccesses.Storing.{store_refused, stored}
use Rattle.run_actions.proofs.accesses.stores.store.Goals as goal

pub returns-in-Ok-clause-stores : goal.returns-in-Ok-clause-stores
returns-in-Ok-clause-stores c =
    let a = c.args in
    stored a.align a.address.now a.slots.now a.value.now a.stack.now a.memory.now c.move_on.new.self c.put_value.new.memory c.requires.on.running c.move_on.ensures
    (ap (λ v. stored_value v a.align (zip a.slots.now (map (leaf_of a.stack.now) a.value.now)) a.memory.now) (sym c.read-place.ensures) ∙ c.in-Ok.ensures.stored)

pub returns-in-Err-clause-stores : goal.returns-in-Err-clause-stores
returns-in-Err-clause-stores c =
    let a = c.args in
    store_refused a.align a.address.now a.slots.now a.value.now a.stack.now a.memory.now c.read-place.result c.put_value.new.memory c.in-Err.fault c.read-place.ensures c.in-Err.ensures.stored
