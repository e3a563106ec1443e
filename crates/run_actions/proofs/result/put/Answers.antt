use Rattle.std.proofs.Common.{[], ◌∷◌, sym, ap, ◌∙◌}
use Rattle.ir_eval.specs.declared.value.Scalar.{Scalar}
use Rattle.run_rules.specs.Frame.{with_value}
use Rattle.run_actions.specs.Stack.UnderWay.{changed}
use Rattle.run_actions.proofs.result.put.Goals as goal

pub returns-in-Int : goal.returns-in-Int
returns-in-Int c = c.set.ensures ∙ ap (λ (v : Scalar). changed (λ f. with_value f c.args.to (v ∷ [])) c.args.stack.now) (sym c.in-Int.is)

pub returns-in-Ptr : goal.returns-in-Ptr
returns-in-Ptr c = c.set-in-Ptr.ensures ∙ ap (λ (v : Scalar). changed (λ f. with_value f c.args.to (v ∷ [])) c.args.stack.now) (sym c.in-Ptr.is)

pub returns-in-Poison : goal.returns-in-Poison
returns-in-Poison c = c.set-in-Poison.ensures ∙ ap (λ (v : Scalar). changed (λ f. with_value f c.args.to (v ∷ [])) c.args.stack.now) (sym c.in-Poison.is)
