use Rattle.std.proofs.Common.{◌≡◌, List, ap, ◌∙◌, subst}
use Rattle.std.specs.Prelude.{IfOk, map}
use Rattle.run_rules.specs.Plan as plans
use Rattle.ir_run.specs.Constructors.{constructor_seen}
use Rattle.ir_run.proofs.ListedElements.{all_constructors, no_constructors}
use Rattle.ir_run.proofs.order.constructors.Goals as goal

pub returns-in-Some : goal.returns-in-Some
returns-in-Some c =
    subst (λ (cs : List plans.Constructor). IfOk c.in_order.result (λ found. map constructor_seen found.items ≡ cs)) (all_constructors c.args.names.now c.in-Some.elements.now c.in-Some.ensures) c.in_order.ensures

pub returns : goal.returns
returns c = ap (map constructor_seen) c.new.ensures.items ∙ no_constructors c.args.names.now c.in-None.ensures
