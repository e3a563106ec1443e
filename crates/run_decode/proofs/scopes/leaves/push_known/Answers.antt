use Rattle.std.proofs.Common.{[], ◌∷◌, map, refl, ap, arith}
use Rattle.std.proofs.lemmas.List.{map-append, take_all}
use Rattle.ir_eval.specs.declared.value.Scalar.{Scalar}
use Rattle.run_rules.specs.Action.{Known}
use Rattle.run_actions.specs.declared.stack.origin.Origin.TheVariants as origin
use Rattle.run_decode.proofs.OnScopes.Gained.{gains_one, gains_same, item_more}
use Rattle.run_decode.proofs.scopes.leaves.push_known.Goals as goal

pub leaves-preserved : goal.leaves-preserved
leaves-preserved c =
    item_more (λ (leaf : Scalar). Known leaf ∷ []) (map Known) (map-append Known) (λ leaf. refl) c.args.leaves.now c.leaves.leaf-index _ _ c.args.into.now.items c.leaves.into.items c.push.new.self.items
    c.leaves-test.true refl c.leaves.invariant (gains_one c.leaves.into.items c.push.new.self.items (origin.Known _) c.in_ok-push.ensures.items)

pub returns : goal.returns
returns c = gains_same c.args.into.now.items c.leaves.into.items _ _ (ap (map Known) (take_all c.leaves.leaf-index c.args.leaves.now (omega arith))) c.leaves.invariant
