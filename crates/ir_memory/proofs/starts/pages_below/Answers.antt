use Rattle.std.proofs.Common.{ℕ, arith, rules, leb}
use Rattle.std.proofs.lemmas.List.Sorted.{IsNonDecreasingBy-from_default, IsPartitionedBy-leb, IsPartitionPoint-from_clause}
use Rattle.std.proofs.lemmas.Bool.{leb-true, leb-false}
use Rattle.ir_memory.proofs.starts.pages_below.Goals as goal

pub returns : goal.returns
returns c =
    let xs = c.args.starts.now.items in
    let parted = IsPartitionedBy-leb (λ (x : ℕ). x) xs c.args.address (IsNonDecreasingBy-from_default (λ (x : ℕ). x) xs 0 c.requires) in
    let split = rw c.as_slice.ensures.value at c.partition_point.ensures.partitioned in
    let point = IsPartitionPoint-from_clause (λ (x : ℕ). leb x c.args.address) xs _ split parted (λ a r q k. search rules) in
    record {
      within = rw c.as_slice.ensures.value at c.partition_point.ensures.bound;
      low = λ p h. leb-true _ _ (point.0 p 0 (omega arith) h);
      high = λ p h l. leb-false _ _ (point.1 p 0 h l);
    }
