use Rattle.std.proofs.Common.{◌<◌, length, sym, ap, ◌∙◌, subst}
use Rattle.module_arena.specs.declared.instruction.Value.{Value}
use Rattle.module_arena.specs.Lists.{Lists}
use Rattle.module_arena.specs.View.{module_of}
use Rattle.type_table.specs.Tree.{ptr}
use Rattle.run_initial.specs.Constants.Sound.{IsSound, constant_of, names_of}
use Rattle.run_rules.specs.Action as actions
use Rattle.run_rules.specs.Constant.{constant_value, one_leaf}
use Rattle.run_rules.specs.Scope.{scalar_of}
use Rattle.run_decode.specs.Scopes.Scopes.{HasValue, StandsAt, scope_in, value_of}
use Rattle.run_decode.proofs.OnScopes.Gained.{known_one}
use Rattle.run_decode.proofs.scopes.leaves.callee_leaf.Goals as goal

pub local_leaf-requires : goal.local_leaf-requires
local_leaf-requires c = subst (HasValue c.args.scope.now) c.in-Local.is c.requires.there

pub returns-in-Local : goal.returns-in-Local
returns-in-Local c =
    let s = c.args.scope.now in
    c.local_leaf.ensures ptr ∙ ap (λ (v : Value). scalar_of (scope_in s.lists s.function) ptr (value_of s.lists s.function v)) (sym c.in-Local.is)

pub pointer_leaf-requires-clause-constant : goal.pointer_leaf-requires-clause-constant
pointer_leaf-requires-clause-constant c = subst (λ (a : Lists). c.in-Known.id < length a.constants) (sym c.names.ensures) (subst (HasValue c.args.scope.now) c.in-Known.is c.requires.there)

pub pointer_leaf-requires-clause-sound : goal.pointer_leaf-requires-clause-sound
pointer_leaf-requires-clause-sound c =
    let s = c.args.scope.now in
    subst (λ (a : Lists). IsSound (module_of a) ptr (constant_of a c.in-Known.id)) (sym c.names.ensures) (subst (StandsAt s ptr) c.in-Known.is c.requires.stands)

pub returns-in-Known : goal.returns-in-Known
returns-in-Known c =
    let s = c.args.scope.now in
    ap actions.Known (c.pointer_leaf.ensures.value ∙ ap (λ (a : Lists). one_leaf (constant_value (names_of a) ptr (constant_of a c.in-Known.id))) c.names.ensures)
    ∙ known_one (constant_value (names_of s.lists) ptr (constant_of s.lists c.in-Known.id))
    ∙ ap (λ (v : Value). scalar_of (scope_in s.lists s.function) ptr (value_of s.lists s.function v)) (sym c.in-Known.is)
