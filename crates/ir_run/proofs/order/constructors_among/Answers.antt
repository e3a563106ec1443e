use Rattle.std.proofs.Common.{Option, sym, ap, ◌∙◌}
use Rattle.std.specs.Option.{option_map}
use Rattle.ir_run.specs.Constructors.{constructor_seen}
use Rattle.ir_run.specs.declared.order.Constructor.{Constructor}
use Rattle.ir_run.proofs.ListedElements.{none_found, one_found}
use Rattle.ir_run.proofs.order.constructors_among.Goals as goal
use Rattle.ir_run.proofs.order.constructors_among.Goals.{in-Some+in_ok-push, in_default}

pub elements-preserved : goal.elements-preserved
elements-preserved c =
    let a = c.args.names.now in
    let es = c.args.elements.now in
    let k = c.elements.element-index in
    let x = c.element-item.result in
    let found = c.elements.found.items in
    let told = c.in_ok-constructor.ensures in
    elim c.match-branch-2.branch [
      | in-Some+in_ok-push w ↦
          rw w.found-is (rw w.in_ok-push.ensures.items (one_found a es k x found c.elements-test.true c.element-item.is c.elements.invariant w.in-Some.constructor (sym (ap (λ (o : Option Constructor). option_map constructor_seen o) w.in-Some.is) ∙ told)))
      | in_default w ↦
          rw w.found-is (none_found a es k x found c.elements-test.true c.element-item.is c.elements.invariant (sym (ap (λ (o : Option Constructor). option_map constructor_seen o) w.in_default.is) ∙ told))
    ]
