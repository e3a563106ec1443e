use Rattle.std.proofs.Common.{arith, ◌<◌, ◌≤◌}
use Rattle.type_table.specs.declared.measure.Measure.{Measure}
use Rattle.type_table.specs.Kept.{IsLarge}
use Rattle.type_table.proofs.Judged.{not_any, small_if}
use Rattle.type_table.proofs.settle.Measures.check.Goals as goal

pub returns-then-any_too_large-clause-fault : goal.returns-then-any_too_large-clause-fault
returns-then-any_too_large-clause-fault c = (
  not_any (λ m. 64 < m.nesting) (λ m. m.nesting ≤ 64) _ (λ m h. omega (arith, h)) (λ some. let t = c.any_too_deep.ensures.1 some in cc),
  c.any_too_large.ensures.0 c.if-any_too_large.true,
)

pub returns-clause-small : goal.returns-clause-small
returns-clause-small c =
    let P : Measure → Type 0 = λ m. (m.nesting ≤ 64) in
    let nests = not_any (λ m. 64 < m.nesting) P _ (λ m h. omega (arith, h)) (λ some. let t = c.any_too_deep.ensures.1 some in cc) in
    let fits = not_any IsLarge (λ m. IsLarge m → ⊥) _ (λ m h. h) (λ some. let t = c.any_too_large.ensures.1 some in cc) in
    λ k d lt. small_if _ (nests k d lt) (fits k d lt)
