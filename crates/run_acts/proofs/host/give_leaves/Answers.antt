use Rattle.std.proofs.Common.{◌∷◌, length, Option, ◌∙◌, ap, subst, sym}
use Rattle.std.specs.Option.{option_to_list}
use Rattle.ir_eval.specs.declared.value.Scalar.{Scalar}
use Rattle.run_rules.specs.Frame.{with_value}
use Rattle.run_actions.specs.Stack.UnderWay.{changed, Fits, newest}
use Rattle.run_acts.proofs.host.give_leaves.Goals as goal

pub set_all-requires : goal.set_all-requires
set_all-requires c =
    let a = c.args in
    subst (λ (o : Option Scalar). Fits (length (newest a.stack.now.frames).leaves) a.to (a.outcome.first ∷ option_to_list o)) c.in-None.is c.requires

pub returns-in-None : goal.returns-in-None
returns-in-None c =
    let a = c.args in
    c.set_all.ensures ∙ ap (λ (o : Option Scalar). changed (λ f. with_value f a.to (a.outcome.first ∷ option_to_list o)) a.stack.now) (sym c.in-None.is)

pub set_all-requires-in-Some : goal.set_all-requires-in-Some
set_all-requires-in-Some c =
    let a = c.args in
    subst (λ (o : Option Scalar). Fits (length (newest a.stack.now.frames).leaves) a.to (a.outcome.first ∷ option_to_list o)) c.in-Some.is c.requires

pub returns-in-Some : goal.returns-in-Some
returns-in-Some c =
    let a = c.args in
    c.set_all-in-Some.ensures ∙ ap (λ (o : Option Scalar). changed (λ f. with_value f a.to (a.outcome.first ∷ option_to_list o)) a.stack.now) (sym c.in-Some.is)
