use Rattle.std.proofs.Common.{◌≤◌, List, length, map, min, sym, ap, ◌∙◌, subst, take, arith}
use Rattle.std.specs.Prelude.{zip}
use Rattle.run_rules.specs.Action as actions
use Rattle.run_rules.specs.Leaves.{Slot}
use Rattle.run_actions.specs.declared.stack.origin.Origin.{Origin}
use Rattle.run_actions.specs.Stack.Origins.{origin_of}
use Rattle.run_actions.specs.Accesses.Done.{Accesses}
use Rattle.run_acts.proofs.OnClasses.Paired.{ArePaired, paired, zip_front}
use Rattle.run_acts.proofs.classes.memory.store_pairs.Goals as goal

pub store-requires : goal.store-requires
store-requires c =
    let r = c.requires in
    let n = length c.args.memory.now.list in
    let s = c.args.stack.now in
    let all = paired n s c.min-count.result c.args.slots.now c.args.value.now c.min-count.ensures r.pairs in
    let k =
    subst (λ (kinds : List Slot). ArePaired n s kinds c.front-leaves.result.now) (sym c.front-kinds.ensures)
    (subst (λ (leaves : List Origin). ArePaired n s (take c.min-count.result c.args.slots.now) leaves) (sym c.front-leaves.ensures) all)
    in
    record { on = r.on; there = r.there; address = r.address; align = r.align; leaves = k.leaves; count = k.count_same; values_there = k.there; values = k.stored }

pub returns-clause-stores : goal.returns-clause-stores
returns-clause-stores c =
    let a = c.args in
    let small : min (length a.slots.now) (length a.value.now) ≤ c.min-count.result = omega (arith, c.min-count.ensures) in
    let same = (λ i. zip (c.front-kinds.ensures i) (map origin_of (c.front-leaves.ensures i))) ∙ zip_front origin_of c.min-count.result a.slots.now a.value.now small in
    subst (λ (x : actions.Action). Accesses x c.store.result a.stack.now c.store.new.stack a.memory.now c.store.new.memory) (ap (actions.Store a.align (origin_of a.address.now)) same) c.store.ensures.stores
