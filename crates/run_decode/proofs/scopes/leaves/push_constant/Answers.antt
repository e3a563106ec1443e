use Rattle.std.proofs.Common.{List, ◌++◌, map, sym, ap, ◌∙◌, subst}
use Rattle.ir_eval.specs.declared.value.Scalar.{Scalar}
use Rattle.module_arena.specs.Lists.{Lists}
use Rattle.module_arena.specs.View.{module_of}
use Rattle.type_table.specs.Types.{tree}
use Rattle.run_initial.specs.Constants.Sound.{IsSound, constant_of, names_of}
use Rattle.run_rules.specs.Action.{Known}
use Rattle.run_rules.specs.Constant.{constant_value}
use Rattle.run_decode.specs.Scopes.Leaves.{Gains}
use Rattle.run_decode.proofs.OnScopes.Answered.{on_also}
use Rattle.run_decode.proofs.OnScopes.Gained.{gains_same}
use Rattle.run_decode.proofs.scopes.leaves.push_constant.Goals as goal

pub push_leaves-requires-clause-sound : goal.push_leaves-requires-clause-sound
push_leaves-requires-clause-sound c = subst (λ (a : Lists). IsSound (module_of a) (tree a.table c.args.ty) (constant_of a c.args.id)) (sym c.names.ensures) c.requires.stands

pub returns : goal.returns
returns c =
    let a = c.args.scope.now.lists in
    let old = c.args.into.now.items in
    let new = c.push_known.new.into.items in
    let all =
    c.deref.ensures.value
    ∙ c.in_ok-push_leaves.ensures
    ∙ ap (λ (l : List Scalar). l ++ constant_value (names_of c.names.result.now) (tree c.names.result.now.table c.args.ty) (constant_of c.names.result.now c.args.id)) c.new-leaves.ensures.items
    ∙ ap (λ (x : Lists). constant_value (names_of x) (tree x.table c.args.ty) (constant_of x c.args.id)) c.names.ensures in
    on_also c.push_known.result _ (Gains old new (map Known (constant_value (names_of a) (tree a.table c.args.ty) (constant_of a c.args.id)))) c.push_known.ensures (λ h. gains_same old new _ _ (ap (map Known) all) h)
