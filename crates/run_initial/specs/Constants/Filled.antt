-- For `leaf_in`, and how the code of `push_leaves` reads: the leaves of a value of which each is filled alike, wherever they lie.
use Rattle.std.specs.Prelude.{ℕ, zero, suc, List, [], ◌∷◌, ◌++◌}
use Rattle.ir_eval.specs.declared.value.Scalar.{Scalar}
use Rattle.ir_eval.specs.declared.value.Scalar.TheVariants as scalar
use Rattle.ir_memory.specs.declared.leaf.Leaf.{Leaf}
use Rattle.ir_memory.specs.declared.leaf.Leaf.TheVariants as leaf
use Rattle.type_table.specs.Shape.{Shape, int_leaf, ptr_leaf, void_leaf, opaque_leaf, array_of, struct_of, Shapes, no_shapes, more_shapes}
use Rattle.run_rules.specs.Leaves.{zero_leaf}
use Rattle.run_initial.specs.declared.constants.filled.Fill.{Fill}
use Rattle.run_initial.specs.declared.constants.filled.Fill.TheVariants.{Zero, Poison}

-- what stands in a leaf
abbrev pub leaf_in : Fill → Leaf → Scalar
leaf_in Zero kind = zero_leaf kind
leaf_in Poison kind = scalar.Poison

-- a list so many times
unfoldable pub copies : ℕ → List Scalar → List Scalar
copies zero xs = []
copies (suc n) xs = xs ++ copies n xs

module _ (fill : Fill) where
  abbrev mutual
    -- the leaves of a value
    pub filled : Shape → List Scalar
    filled (int_leaf w) = leaf_in fill (leaf.Int w) ∷ []
    filled ptr_leaf = leaf_in fill leaf.Ptr ∷ []
    filled void_leaf = []
    filled (opaque_leaf label) = []
    filled (array_of n s) = copies n (filled s)
    filled (struct_of label packed ss) = all_filled ss

    -- those of fields, one behind the other
    pub all_filled : Shapes → List Scalar
    all_filled no_shapes = []
    all_filled (more_shapes s ss) = filled s ++ all_filled ss
