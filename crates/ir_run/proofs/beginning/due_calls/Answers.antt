use Rattle.std.proofs.Common.{◌∷◌, [], ◌++◌, map, List, ap, ◌∙◌}
use Rattle.std.proofs.lemmas.List.{take_all}
use Rattle.run_acts.specs.Dues.{due_of}
use Rattle.run_acts.specs.declared.due.DueCall.{DueCall}
use Rattle.ir_run.proofs.OpenedRun.{all_due, call_more, call_of}
use Rattle.ir_run.proofs.beginning.due_calls.Goals as goal

pub each-preserved : goal.each-preserved
each-preserved c =
    c.in_ok-push.ensures.items
    ∙ call_more c.deref-constructor-items.result.now c.each.constructor-index _ c.each.calls.items c.each-test.true c.each.invariant

pub returns : goal.returns
returns c =
    let items = c.deref-constructor-items.result.now in
    let all = take_all c.each.constructor-index items c.each-test.false ∙ c.deref-constructor-items.ensures.value in
    let made = c.in_ok-push-2.ensures.items ∙ ap (λ (l : List DueCall). l ++ c.args.main ∷ []) (c.each.invariant ∙ ap (map call_of) all) in
    c.new.ensures ∙ ap (map due_of) made ∙ all_due c.args.names.now c.in_ok-first.first.items c.args.main c.in_ok-first.ensures
