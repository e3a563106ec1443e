use Rattle.std.proofs.Common.{[], ◌∷◌, ap, ◌∙◌}
use Rattle.ir_eval.specs.declared.value.Scalar.{Scalar}
use Rattle.type_table.specs.Types.{tree}
use Rattle.module_arena.specs.View.{module_of}
use Rattle.run_initial.specs.Constants.Sound.{constant_of, names_of}
use Rattle.run_initial.proofs.OnConstants.Appended.{reworded}
use Rattle.run_initial.proofs.OnConstants.LeafKinds.{single_is, single_scalar}
use Rattle.run_initial.proofs.constants.leaves.push_scalar.Goals as goal

pub leaf_of-requires-clause-scalar : goal.leaf_of-requires-clause-scalar
leaf_of-requires-clause-scalar c =
    let a = c.args.names.now in
    single_scalar (module_of a) (tree a.table c.args.ty) (constant_of a c.args.id) c.requires.single c.requires.sound

pub returns : goal.returns
returns c =
    let a = c.args.names.now in
    reworded _ _ _ _ _ c.push_leaf.ensures (ap (λ (leaf : Scalar). leaf ∷ []) c.leaf_of.ensures.value ∙ single_is (names_of a) (tree a.table c.args.ty) (constant_of a c.args.id) c.requires.single)
