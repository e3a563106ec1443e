use Rattle.std.proofs.Common.{Some, map, ap, ◌∙◌}
use Rattle.run_actions.specs.Stack.Origins.{origin_of}
use Rattle.type_table.specs.Types.{tree}
use Rattle.run_rules.specs.Resolve.{moves_to}
use Rattle.run_rules.specs.Scope.{value_in}
use Rattle.run_decode.specs.Scopes.Scopes.{scope_in, to_of, value_of}
use Rattle.run_decode.specs.Scopes.Ways.{GainsMoves}
use Rattle.run_decode.proofs.OnScopes.Answered.{on_also}
use Rattle.run_decode.proofs.OnScopes.Gained.{gained_whole}
use Rattle.run_decode.proofs.OnScopes.Wayed.{moves_same}
use Rattle.run_decode.proofs.scopes.ways.push_entry.Goals as goal

pub returns : goal.returns
returns c =
    let s = c.args.scope.now in
    let old = c.args.into.now.items in
    let new = c.push_moves.new.into.items in
    let meant = value_in (scope_in s.lists s.function) (tree s.lists.table c.args.ty) (value_of s.lists s.function c.args.value) in
    let whole = ap (map origin_of) c.deref.ensures.value ∙ gained_whole c.new-leaves.result.items c.push_value.new.into.items meant c.new-leaves.ensures.items c.in_ok-push_value.ensures in
    on_also c.push_moves.result _ (GainsMoves old new (moves_to (to_of s (Some c.args.phi)) meant)) c.push_moves.ensures (λ h. moves_same old new _ _ (λ j. moves_to (c.to.ensures j) (whole j)) h)
