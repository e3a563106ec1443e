use Rattle.std.proofs.Common.{ap, ◌∙◌}
use Rattle.std.specs.Borrow.{Bor}
use Rattle.run_rules.specs.Frame.{followed}
use Rattle.run_actions.specs.Stack.UnderWay.{changed}
use Rattle.run_actions.specs.declared.edge.Edge.{Edge}
use Rattle.run_actions.specs.Edges.{way_of}
use Rattle.run_actions.proofs.Going.{goes_then, goes_else}
use Rattle.run_actions.proofs.ways.branch.Goals as goal
use Rattle.run_actions.proofs.ways.branch.Goals.{then-number-eq0, else-number-eq0}

pub returns : goal.returns
returns c =
    let a = c.args in
    let pool = a.pool.now in
    let first = way_of pool a.then_edge.now in
    let second = way_of pool a.else_edge.now in
    elim c.if-number-eq0.branch [
      | then-number-eq0 w ↦
          goes_else a.condition.now first second a.stack.now c.go.new.stack c.requires.running c.in-Int.number c.in-Int.ensures w.if-number-eq0.true
          (c.go.ensures ∙ ap (λ (e : Bor Edge). changed (followed (way_of pool e.now)) a.stack.now) w.edge-is)
      | else-number-eq0 w ↦
          goes_then a.condition.now first second a.stack.now c.go.new.stack c.requires.running c.in-Int.number c.in-Int.ensures w.if-number-eq0.false
          (c.go.ensures ∙ ap (λ (e : Bor Edge). changed (followed (way_of pool e.now)) a.stack.now) w.edge-is)
    ]
