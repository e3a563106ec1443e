use Rattle.std.proofs.Common.{◌≡◌, [], ◌∷◌, false, sym, ◌∙◌, subst, rules}
use Rattle.ir_memory.specs.Answer.{Answers}
use Rattle.run_rules.specs.Access.{stored_value}
use Rattle.run_rules.specs.Leaves.{Slot}
use Rattle.ir_eval.specs.declared.value.Scalar.TheVariants.{Ptr}
use Rattle.run_initial.proofs.OnInitial.Puts.{one_put}
use Rattle.run_initial.proofs.initial.leaf.put_leaf.Goals as goal

pub returns-clause-put : goal.returns-clause-put
returns-clause-put c =
    let m = c.args.memory.now in
    let old : c.is_fresh.result ≡ false = search rules in
    one_put c.args.target.block (record { offset = c.args.target.offset; leaf = c.args.kind }) c.args.value m c.store_leaf.new.memory c.store_leaf.result (sym c.is_fresh.ensures ∙ old)
    (subst (λ (s : Slot). Answers {T = Unit {0}} (stored_value (Ptr c.args.target.block) 1 ((s, c.args.value) ∷ []) m) m c.store_leaf.new.memory c.store_leaf.result) c.new-slot.ensures c.store_leaf.ensures.answer)
