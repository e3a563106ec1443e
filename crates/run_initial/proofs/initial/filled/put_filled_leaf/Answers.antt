use Rattle.std.proofs.Common.{[], ◌∷◌, subst}
use Rattle.ir_eval.specs.declared.value.Scalar.{Scalar}
use Rattle.run_names.specs.Values.Answer.{Stores}
use Rattle.run_initial.specs.Initial.Fresh.{put}
use Rattle.run_initial.proofs.initial.filled.put_filled_leaf.Goals as goal

pub returns-clause-put : goal.returns-clause-put
returns-clause-put c =
    let a = c.args in
    subst (λ (v : Scalar). Stores {T = Unit {0}} (put a.target.block ((record { offset = a.target.offset; leaf = a.kind }, v) ∷ []) a.memory.now) c.put_leaf.new.memory c.put_leaf.result) c.leaf_in.ensures c.put_leaf.ensures.put
