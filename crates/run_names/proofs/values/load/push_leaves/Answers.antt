use Rattle.std.proofs.Common.{◌≡◌, ◌+◌, ◌++◌, List, Some, Ok, ap, ap₂, sym, ◌∙◌, subst, arith}
use Rattle.std.specs.Prelude.{slice_get}
use Rattle.std.proofs.lemmas.Option.{slice_get-get_or}
use Rattle.ir_eval.specs.declared.value.Scalar.{Scalar}
use Rattle.ir_eval.specs.declared.value.Scalar.TheVariants.{Ptr}
use Rattle.ir_memory.specs.Memory.{loaded}
use Rattle.ir_memory.proofs.Changed.{on_err}
use Rattle.run_rules.specs.Access.{behind}
use Rattle.run_names.proofs.OnValues.Leaves.{IsPartLoaded, none_loaded, one_loaded}
use Rattle.run_names.proofs.values.load.push_leaves.Goals as goal

pub slots-init : goal.slots-init
slots-init c = record {
  part = none_loaded c.args.memory.now c.args.pointer c.args.align c.args.slots.now c.args.into.now.items c.requires.align;
  count = omega arith;
  room = omega arith;
}

pub slots-preserved : goal.slots-preserved
slots-preserved c =
    let m = c.args.memory.now in
    let p = c.args.pointer in
    let ss = c.args.slots.now in
    let k = c.slots.slot-index in
    let s = c.slot-item.result in
    let at : slice_get ss k ≡ Some s = slice_get-get_or ss k s c.slots-test.true ∙ ap Some (sym c.slot-item.is) in
    let there : loaded m (Ptr (behind p s.offset)) s.leaf c.slots.asked ≡ Ok c.in_ok-leaf.leaf =
    sym (ap₂ (λ q kind. loaded m (Ptr q) kind c.slots.asked) (c.behind.ensures ∙ ap (behind p) c.offset.ensures) c.leaf.ensures) ∙ sym c.in_ok-leaf.ensures.value in
    record {
      part =
          subst (λ new. IsPartLoaded m p c.args.align ss (k + 1) 1 c.args.into.now.items new) (sym c.in_ok-push.ensures.items)
          (one_loaded m p c.args.align ss k c.slots.asked c.args.into.now.items c.slots.into.items s c.in_ok-leaf.leaf c.slots.invariant.part at there);
      count = omega (arith, c.in_ok-push.ensures.len, c.slots.invariant.count);
      room = omega (arith, c.in_ok-push.ensures.capacity, c.slots.invariant.room);
    }

pub returns-in_err-push-clause-err : goal.returns-in_err-push-clause-err
returns-in_err-push-clause-err c =
    on_err c.from_residual-in_err-push.result ((vs : List Scalar) × (c.push.new.self.items ≡ c.args.into.now.items ++ vs))
    (c.slots.invariant.part.front, c.in_err-push.ensures.items ∙ c.slots.invariant.part.items)
