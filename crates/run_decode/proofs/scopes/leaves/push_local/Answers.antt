use Rattle.std.proofs.Common.{◌-◌, map}
use Rattle.std.specs.List.{range_with_len}
use Rattle.type_table.specs.Tree.{Tree, ptr}
use Rattle.module_arena.specs.declared.instruction.Value.TheVariants as value
use Rattle.run_rules.specs.Action.{Held}
use Rattle.run_rules.specs.Scope.{value_in}
use Rattle.run_decode.specs.Scopes.Leaves.{Gains}
use Rattle.run_decode.specs.Scopes.Scopes.{scope_in, value_of}
use Rattle.run_decode.proofs.OnScopes.Answered.{on_also}
use Rattle.run_decode.proofs.OnScopes.Gained.{gains_same, in_order, placed_value}
use Rattle.run_decode.proofs.scopes.leaves.push_local.Goals as goal

pub push_places-requires : goal.push_places-requires
push_places-requires c = in_order c.args.scope.now c.args.id c.bounds-begin.result.0 c.bounds-begin.result.1 ptr c.bounds-begin.ensures

pub returns : goal.returns
returns c =
    let s = c.args.scope.now in
    let old = c.args.into.now.items in
    let new = c.push_places.new.into.items in
    on_also c.push_places.result (Gains old new (map Held (range_with_len c.bounds-begin.result.0 (c.bounds-begin.result.1 - c.bounds-begin.result.0))))
    ((ty : Tree) → Gains old new (value_in (scope_in s.lists s.function) ty (value_of s.lists s.function (value.Local c.args.id)))) c.push_places.ensures
    (λ h. λ ty. gains_same old new _ _ (placed_value s c.args.id c.bounds-begin.result.0 c.bounds-begin.result.1 ty c.bounds-begin.ensures) h)
