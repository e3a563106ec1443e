use Rattle.std.proofs.Common.{map, sym, ap, subst}
use Rattle.type_table.specs.Tree.{Tree}
use Rattle.type_table.specs.Types.{tree}
use Rattle.module_arena.specs.declared.instruction.Value.{Value}
use Rattle.module_arena.specs.declared.instruction.Value.TheVariants as value
use Rattle.run_initial.specs.Constants.Sound.{constant_of, names_of}
use Rattle.run_rules.specs.Action.{Known}
use Rattle.run_rules.specs.Constant.{constant_value}
use Rattle.run_rules.specs.Scope.{value_in}
use Rattle.run_decode.specs.Scopes.Leaves.{Gains}
use Rattle.run_decode.specs.Scopes.Scopes.{HasValue, HasValueAt, scope_in, value_of}
use Rattle.run_decode.proofs.OnScopes.Answered.{on_also}
use Rattle.run_decode.proofs.OnScopes.Gained.{gains_same}
use Rattle.run_decode.proofs.scopes.leaves.push_value.Goals as goal

pub push_local-requires : goal.push_local-requires
push_local-requires c = subst (HasValue c.args.scope.now) c.in-Local.is c.requires.there

pub returns-in-Local : goal.returns-in-Local
returns-in-Local c =
    let s = c.args.scope.now in
    let t = tree s.lists.table c.args.ty in
    let old = c.args.into.now.items in
    let new = c.push_local.new.into.items in
    on_also c.push_local.result ((ty : Tree) → Gains old new (value_in (scope_in s.lists s.function) ty (value_of s.lists s.function (value.Local c.in-Local.id))))
    (Gains old new (value_in (scope_in s.lists s.function) t (value_of s.lists s.function c.args.value))) c.push_local.ensures
    (λ h. gains_same old new _ _ (ap (λ (v : Value). value_in (scope_in s.lists s.function) t (value_of s.lists s.function v)) (sym c.in-Local.is)) (h t))

pub push_constant-requires : goal.push_constant-requires
push_constant-requires c = subst (HasValueAt c.args.scope.now c.args.ty) c.in-Known.is c.requires

pub returns-in-Known : goal.returns-in-Known
returns-in-Known c =
    let s = c.args.scope.now in
    let t = tree s.lists.table c.args.ty in
    let old = c.args.into.now.items in
    let new = c.push_constant.new.into.items in
    on_also c.push_constant.result (Gains old new (map Known (constant_value (names_of s.lists) t (constant_of s.lists c.in-Known.id))))
    (Gains old new (value_in (scope_in s.lists s.function) t (value_of s.lists s.function c.args.value))) c.push_constant.ensures
    (λ h. gains_same old new _ _ (ap (λ (v : Value). value_in (scope_in s.lists s.function) t (value_of s.lists s.function v)) (sym c.in-Known.is)) h)
