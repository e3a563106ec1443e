use Rattle.std.proofs.Common.{◌≡◌, ◌≤◌, ◌++◌, All, drop, map}
use Rattle.type_table.specs.declared.measure.TheConstants.{SIZE_LIMIT}
use Rattle.type_table.specs.Shape.{array_of}
use Rattle.run_rules.specs.Displace.{inner_terms}
use Rattle.run_rules.specs.Resolve.{index_in}
use Rattle.run_names.specs.Shapes.Shapes.{shape_in}
use Rattle.run_decode.specs.Scopes.Scopes.{operand_of, scope_in}
use Rattle.run_decode.specs.Operands.Steps.{IsPlace, shape_at, term_of}
use Rattle.run_decode.proofs.operands.steps.push_steps.Given as goal

-- with the indices so far, the others lead over all that is asked for
abbrev pub invariant-indices : goal.invariant-indices
invariant-indices l = record {
  place : IsPlace l.scope.lists.table l.place;
  terms : map term_of l.into.items
      ++ inner_terms (shape_at l.scope.lists.table l.place) (map (λ o. index_in (scope_in l.scope.lists l.scope.function) (operand_of l.scope.lists l.scope.function o)) (drop l.operand-index l.indices))
      ≡ map term_of l.fn.into.items
      ++ inner_terms (array_of 0 (shape_in l.scope.lists.table l.fn.source)) (map (λ o. index_in (scope_in l.scope.lists l.scope.function) (operand_of l.scope.lists l.scope.function o)) l.indices);
  small : All (λ s. s.size ≤ SIZE_LIMIT) l.into.items;
}
