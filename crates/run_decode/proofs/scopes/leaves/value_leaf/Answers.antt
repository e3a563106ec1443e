use Rattle.std.proofs.Common.{◌≡◌, ◌<◌, true, length, sym, ap, ◌∙◌, subst}
use Rattle.module_arena.specs.declared.instruction.Value.{Value}
use Rattle.module_arena.specs.Lists.{Lists}
use Rattle.module_arena.specs.View.{module_of}
use Rattle.type_table.specs.Types.{tree}
use Rattle.run_initial.specs.Constants.Sound.{IsSound, constant_of, is_scalar, names_of}
use Rattle.run_rules.specs.Action as actions
use Rattle.run_rules.specs.Constant.{constant_value, one_leaf}
use Rattle.run_rules.specs.Scope.{scalar_of}
use Rattle.run_decode.specs.Scopes.Scopes.{HasValue, StandsAt, scope_in, value_of}
use Rattle.run_decode.proofs.OnScopes.Gained.{known_one}
use Rattle.run_decode.proofs.scopes.leaves.value_leaf.Goals as goal

pub local_leaf-requires : goal.local_leaf-requires
local_leaf-requires c = subst (HasValue c.args.scope.now) c.in-Local.is c.requires.value.there

pub returns-in-Local : goal.returns-in-Local
returns-in-Local c =
    let s = c.args.scope.now in
    let t = tree s.lists.table c.args.ty in
    c.local_leaf.ensures t ∙ ap (λ (v : Value). scalar_of (scope_in s.lists s.function) t (value_of s.lists s.function v)) (sym c.in-Local.is)

pub leaf_of-requires-clause-ty : goal.leaf_of-requires-clause-ty
leaf_of-requires-clause-ty c = subst (λ (a : Lists). c.args.ty < length a.table.types) (sym c.names.ensures) c.requires.value.known

pub leaf_of-requires-clause-constant : goal.leaf_of-requires-clause-constant
leaf_of-requires-clause-constant c = subst (λ (a : Lists). c.in-Known.id < length a.constants) (sym c.names.ensures) (subst (HasValue c.args.scope.now) c.in-Known.is c.requires.value.there)

pub leaf_of-requires-clause-scalar : goal.leaf_of-requires-clause-scalar
leaf_of-requires-clause-scalar c = subst (λ (a : Lists). is_scalar (tree a.table c.args.ty) ≡ true) (sym c.names.ensures) c.requires.scalar

pub leaf_of-requires-clause-sound : goal.leaf_of-requires-clause-sound
leaf_of-requires-clause-sound c =
    let s = c.args.scope.now in
    subst (λ (a : Lists). IsSound (module_of a) (tree a.table c.args.ty) (constant_of a c.in-Known.id)) (sym c.names.ensures)
    (subst (StandsAt s (tree s.lists.table c.args.ty)) c.in-Known.is c.requires.value.stands)

pub returns-in-Known : goal.returns-in-Known
returns-in-Known c =
    let s = c.args.scope.now in
    let t = tree s.lists.table c.args.ty in
    ap actions.Known
    (c.leaf_of.ensures.value ∙ ap (λ (a : Lists). one_leaf (constant_value (names_of a) (tree a.table c.args.ty) (constant_of a c.in-Known.id))) c.names.ensures)
    ∙ known_one (constant_value (names_of s.lists) t (constant_of s.lists c.in-Known.id))
    ∙ ap (λ (v : Value). scalar_of (scope_in s.lists s.function) t (value_of s.lists s.function v)) (sym c.in-Known.is)
