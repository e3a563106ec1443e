use Rattle.std.proofs.Common.{ap, ◌∙◌}
use Rattle.run_rules.specs.Frame.{followed}
use Rattle.run_actions.specs.Stack.UnderWay.{changed}
use Rattle.run_actions.specs.declared.edge.Edge.{Edge}
use Rattle.run_actions.specs.Edges.{way_of}
use Rattle.run_actions.proofs.Going.{goes_case, chosen_may}
use Rattle.run_actions.proofs.ways.switch.Goals as goal

pub go-requires-clause-way : goal.go-requires-clause-way
go-requires-clause-way c =
    rw c.chosen.ensures (chosen_may c.args.stack.now c.args.pool.now c.in-Int.number c.args.otherwise.now c.args.cases.now c.requires.other_way c.requires.case_ways)

pub returns : goal.returns
returns c =
    let a = c.args in
    goes_case a.value.now a.pool.now c.in-Int.number a.otherwise.now a.cases.now a.stack.now c.go.new.stack c.requires.running c.in-Int.ensures
    (c.go.ensures ∙ ap (λ (e : Edge). changed (followed (way_of a.pool.now e)) a.stack.now) c.chosen.ensures)
