use Rattle.std.proofs.Common.{◌≡◌, [], ◌∷◌, List, Ok, sym, subst}
use Rattle.std.specs.Prelude.{IfSome}
use Rattle.ir_eval.specs.declared.value.Scalar.{Scalar}
use Rattle.ir_eval.specs.declared.value.Scalar.TheVariants.{Int}
use Rattle.run_rules.specs.Access.{loaded_value}
use Rattle.run_rules.specs.Leaves.{Slot}
use Rattle.run_actions.proofs.accesses.loads.integer.Goals as goal

pub returns : goal.returns
returns c =
    let a = c.args in
    subst (λ (slots : List Slot). IfSome c.load_plain.result (λ n. loaded_value a.memory.now a.address a.align slots ≡ Ok (Int n ∷ []))) (sym c.only.ensures)
    (subst (λ (v : Scalar). IfSome c.load_plain.result (λ n. loaded_value a.memory.now v a.align (c.only.result ∷ []) ≡ Ok (Int n ∷ []))) (sym c.in-Ptr.is) c.load_plain.ensures)
