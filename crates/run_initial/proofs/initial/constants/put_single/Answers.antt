use Rattle.std.proofs.Common.{[], ◌∷◌, length, sym, ap, ◌∙◌, subst}
use Rattle.ir_eval.specs.declared.value.Scalar.{Scalar}
use Rattle.type_table.specs.Types.{tree}
use Rattle.module_arena.specs.View.{module_of}
use Rattle.run_initial.specs.Constants.Sound.{constant_of, names_of}
use Rattle.run_initial.proofs.OnConstants.LeafKinds as leaves
use Rattle.run_initial.proofs.OnConstants.LeafKinds.{single_scalar}
use Rattle.run_rules.specs.Constant.{constant_value, one_leaf}
use Rattle.typed_runs.proofs.Leaves.{leaf_more}
use Rattle.typed_runs.specs.Kinds.{IsOf}
use Rattle.run_initial.specs.Initial.Constants.{value_at}
use Rattle.run_initial.proofs.OnInitial.Lists.{leaf_shaped, single_is}
use Rattle.run_initial.proofs.OnInitial.Puts.{reworded}
use Rattle.run_initial.proofs.OnInitial.Sounds.{blocks, single_typed}
use Rattle.run_initial.proofs.initial.constants.put_single.Goals as goal

pub leaf_of-value-requires : goal.leaf_of-value-requires
leaf_of-value-requires c =
    let a = c.args.names.now in
    let part = c.requires.part in
    record {
      ty = part.ty;
      constant = part.value;
      scalar = single_scalar (module_of a) (tree a.table c.args.constant.ty) (constant_of a c.args.constant.value) c.requires.single part.sound;
      sound = part.sound;
    }

pub kind_of-kind-requires : goal.kind_of-kind-requires
kind_of-kind-requires c =
    let a = c.args.names.now in
    let part = c.requires.part in
    record { known = part.ty; scalar = single_scalar (module_of a) (tree a.table c.args.constant.ty) (constant_of a c.args.constant.value) c.requires.single part.sound }

pub put_leaf-requires-clause-value : goal.put_leaf-requires-clause-value
put_leaf-requires-clause-value c =
    let a = c.args.names.now in
    let t = tree a.table c.args.constant.ty in
    let k = c.kind_of-kind.result in
    let is = leaf_shaped (names_of a) t k c.kind_of-kind.ensures.tree in
    subst (IsOf (length c.args.memory.now.list) k) (sym c.leaf_of-value.ensures.value)
    (leaf_more (blocks a) (length c.args.memory.now.list) k (one_leaf (constant_value (names_of a) t (constant_of a c.args.constant.value))) c.requires.variables (single_typed a t (constant_of a c.args.constant.value) k is c.requires.part.sound))

pub returns-clause-put : goal.returns-clause-put
returns-clause-put c =
    let a = c.args.names.now in
    let t = tree a.table c.args.constant.ty in
    let k = c.kind_of-kind.result in
    let is = leaf_shaped (names_of a) t k c.kind_of-kind.ensures.tree in
    reworded c.put_leaf.result c.args.target.block ((record { offset = c.args.target.offset; leaf = k }, c.leaf_of-value.result) ∷ [])
    (value_at (names_of a) t (constant_of a c.args.constant.value) c.args.target.offset) c.args.memory.now c.put_leaf.new.memory c.put_leaf.ensures.put
    (single_is (names_of a) t c.args.target.offset (constant_of a c.args.constant.value) k c.leaf_of-value.result is
    (ap (λ (leaf : Scalar). leaf ∷ []) c.leaf_of-value.ensures.value ∙ leaves.single_is (names_of a) t (constant_of a c.args.constant.value) c.requires.single))
