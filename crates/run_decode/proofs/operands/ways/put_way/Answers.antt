use Rattle.std.proofs.Common.{map, sym, ap, ◌∙◌}
use Rattle.run_rules.specs.Resolve.{edge_in}
use Rattle.run_decode.specs.Scopes.Scopes.{label_of, scope_in}
use Rattle.run_actions.specs.Stack.Origins.{move_of}
use Rattle.run_decode.proofs.OnFlat.Growth.{moves_add}
use Rattle.run_decode.proofs.OnOperands.Stands.{appended_moves, its_moves, way_put}
use Rattle.run_decode.proofs.operands.ways.put_way.Goals as goal

pub returns-clause-grows : goal.returns-clause-grows
returns-clause-grows c = moves_add c.args.pools.now c.append.new.self (c.deref.result.now, c.in_ok-span.ensures.items)

pub returns-clause-moves : goal.returns-clause-moves
returns-clause-moves c = its_moves _ c.args.pools.now.moves c.in_ok-span.span _ _ c.in_ok-span.ensures.span

pub returns-clause-way : goal.returns-clause-way
returns-clause-way c =
    let s = c.args.scope.now in
    let edge = edge_in (scope_in s.lists s.function) (label_of s.lists s.function c.args.from) (label_of s.lists s.function c.args.to) in
    let gained = appended_moves c.args.pools.now.moves c.append.new.self c.new-moves.result.items c.deref.result.now edge.moves c.in_ok-span.ensures.items c.new-moves.ensures.items (ap (map move_of) c.deref.ensures.value ∙ c.in_ok-position.ensures.moves) in
    way_put c.args.pools.now.moves c.append.new.self edge.moves c.in_ok-span.span _ _ gained c.in_ok-span.ensures.span
    ∙ (λ j. record { block = (c.number.ensures ∙ sym c.push_way.ensures.block) j; position = c.in_ok-position.ensures.position j; moves = edge.moves })
