use Rattle.std.proofs.Common.{◌/◌, ◌∙◌, Some, refl, sym}
use Rattle.std.specs.Ordering.{nat_cmp}
use Rattle.std.specs.BTreeMap as tree
use Rattle.ir_memory.proofs.OnPointers.Seen.{all_same, chosen, empty_put, not_some, passed}
use Rattle.ir_memory.proofs.pointers.slots.make_slot.Goals as goal

pub returns-in_err-put-clause-same : goal.returns-in_err-put-clause-same
returns-in_err-put-clause-same c = all_same (tree.get nat_cmp c.args.slots.now) (tree.get nat_cmp c.put.new.slots) c.in_err-put.ensures.err

pub returns-clause-same : goal.returns-clause-same
returns-clause-same c =
    let now = tree.get nat_cmp c.args.slots.now in
    let n = c.args.address / 8 in
    empty_put now (tree.get nat_cmp c.put.new.slots) n c.none.result (not_some (now n) (sym c.contains_key.ensures ∙ c.if-contains_key.false)) (c.in_ok-put.ensures.put n ∙ chosen n n (Some c.none.result) (now n) refl) c.none.ensures
    (λ s m. c.in_ok-put.ensures.put s ∙ passed s n (Some c.none.result) (now s) m)
