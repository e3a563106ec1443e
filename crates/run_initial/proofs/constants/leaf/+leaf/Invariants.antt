use Rattle.std.proofs.Common.{◌+◌, ◌*◌, ◌^◌, max, drop}
use Rattle.run_rules.specs.Displace.{known, reach_of, terms_of}
use Rattle.run_names.specs.Shapes.Shapes.{shape_in}
use Rattle.run_initial.proofs.OnConstants.Distances.{IsOnTheWay, indices_of}
use Rattle.run_initial.proofs.OnConstants.Within.{top}
use Rattle.run_initial.proofs.constants.leaf.+leaf.Given as goal

-- a constant has earlier ones in it
abbrev pub decreases-leaf_at : goal.decreases-leaf_at
decreases-leaf_at l = 8 * l.id + 3

abbrev pub decreases-cast_leaf : goal.decreases-cast_leaf
decreases-cast_leaf l = 8 * l.operand.value + 4

abbrev pub decreases-binary_leaf : goal.decreases-binary_leaf
decreases-binary_leaf l = 8 * max l.pair.left.value l.pair.right.value + 4

abbrev pub decreases-distance_of : goal.decreases-distance_of
decreases-distance_of l = 8 * top l.indices.now

abbrev pub decreases-address_leaf : goal.decreases-address_leaf
decreases-address_leaf l = 8 * top l.address.now.operands + 1

abbrev pub decreases-further : goal.decreases-further
decreases-further l = 8 * l.index.value + 4

-- the indices so far have led that far
abbrev pub invariant-distance_of-indices : goal.invariant-distance_of-indices
invariant-distance_of-indices l =
    IsOnTheWay l.names.table (2 ^ 63 * 2 ^ 40) l.reached (indices_of l.names (drop l.index-index l.indices)) (reach_of known (terms_of (shape_in l.names.table l.fn.source) (indices_of l.names l.indices)))
