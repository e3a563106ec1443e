use Rattle.std.proofs.Common.{ℕ, List, subst}
use Rattle.run_rules.specs.Resolve.{inserted}
use Rattle.run_decode.specs.Flat.Grown.{AreLeaves}
use Rattle.run_decode.specs.Scopes.Scopes.{operand_of, scope_in}
use Rattle.run_decode.proofs.Meant.{insert_meant}
use Rattle.run_decode.proofs.operations.put_insert.Goals as goal

pub returns-clause-action : goal.returns-clause-action
returns-clause-action c =
    let s = c.args.scope.now in
    let x = c.args.insertion.now in
    insert_meant s c.put_inserted.new.pools c.args.to c.to.result x c.in_ok-value.value c.to.ensures
    (subst (λ (is : List ℕ). AreLeaves c.put_inserted.new.pools c.in_ok-value.value (inserted (scope_in s.lists s.function) (operand_of s.lists s.function x.aggregate) (operand_of s.lists s.function x.part) is)) c.as_slice-indices.ensures c.in_ok-value.ensures.leaves)
