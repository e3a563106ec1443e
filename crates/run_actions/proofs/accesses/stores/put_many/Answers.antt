use Rattle.std.proofs.Common.{◌≡◌, ◌<◌, List, length, map, sym, ◌∙◌, subst}
use Rattle.std.specs.Prelude.{zip}
use Rattle.std.proofs.lemmas.List.{length-map}
use Rattle.ir_eval.specs.declared.value.Scalar.{Scalar}
use Rattle.typed_runs.specs.States.{AreStored}
use Rattle.run_actions.specs.Operands.{leaf_of}
use Rattle.run_actions.specs.Accesses.Done.{IsStoredAt}
use Rattle.run_actions.proofs.OnAccesses.Storing.{all_stored, leaves_read, many, many_want}
use Rattle.run_actions.proofs.accesses.stores.put_many.Goals as goal

pub store_value-requires-in-Ok-clause-leaves : goal.store_value-requires-in-Ok-clause-leaves
store_value-requires-in-Ok-clause-leaves c =
    let a = c.args in
    let same = leaves_read a.stack.now a.value.now c.clear.new.self.items c.read_all.new.into.items c.deref.result.now c.clear.ensures.items c.in-Ok.ensures.ok c.deref.ensures.value in
    subst (λ (l : List Scalar). AreStored (length a.memory.now.list) (zip a.slots.now l)) (sym same) c.requires.values

pub returns-in-Ok-clause-stored : goal.returns-in-Ok-clause-stored
returns-in-Ok-clause-stored c =
    let a = c.args in
    let same = leaves_read a.stack.now a.value.now c.clear.new.self.items c.read_all.new.into.items c.deref.result.now c.clear.ensures.items c.in-Ok.ensures.ok c.deref.ensures.value in
    let more : 1 < length a.slots.now = many (length a.slots.now) c.if-is_empty.ensures c.requires.not_one in
    let r = c.store_value-in-Ok in
    subst (λ (l : List Scalar). IsStoredAt a.address a.align (zip a.slots.now l) r.result a.memory.now r.new.memory) same
    (all_stored a.address a.align (zip a.slots.now c.deref.result.now) a.memory.now r.new.memory r.result r.ensures.value
    (many_want a.slots.now c.deref.result.now _ (subst (λ (l : List Scalar). length l ≡ length a.slots.now) (sym same) (length-map a.value.now (leaf_of a.stack.now) ∙ c.requires.count)) more))

pub returns-in-Err-clause-stored : goal.returns-in-Err-clause-stored
returns-in-Err-clause-stored c =
    let a = c.args in
    let more : 1 < length a.slots.now = many (length a.slots.now) c.if-is_empty.ensures c.requires.not_one in
    many_want a.slots.now (map (leaf_of a.stack.now) a.value.now) _ (length-map a.value.now (leaf_of a.stack.now) ∙ c.requires.count) more
