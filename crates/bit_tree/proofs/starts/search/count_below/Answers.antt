use Rattle.std.proofs.Common.{rules, ltb, ltb-true, ltb-false}
use Rattle.std.proofs.lemmas.List.Sorted.{IsPartitionPoint-from_clause, IsPartitionedBy-ltb}
use Rattle.bit_tree.specs.declared.starts.row.GivenDefinition.{GivenDefinition}
use Rattle.bit_tree.specs.Starts.Rows.{row_id}
use Rattle.bit_tree.proofs.starts.search.count_below.Goals as goal

pub returns-clause-point : goal.returns-clause-point
returns-clause-point c =
    let parted = IsPartitionedBy-ltb row_id c.args.rows.now c.args.id c.requires in
    let point = IsPartitionPoint-from_clause (λ (x : GivenDefinition). ltb (row_id x) c.args.id) _ _ c.partition_point.ensures.partitioned parted (λ a r q k. search rules) in
    (λ k d low high. ltb-true _ _ (point.0 k d low high), λ k d low high. ltb-false _ _ (point.1 k d low high))
