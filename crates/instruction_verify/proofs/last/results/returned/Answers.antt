use Rattle.std.proofs.Common.{Bool, Some, None, cond, ap, ◌∙◌, sym}
use Rattle.type_table.specs.Types.{tree}
use Rattle.instruction_verify.proofs.last.results.returned.Goals as goal

pub returns-then-is_void-clause-ty : goal.returns-then-is_void-clause-ty
returns-then-is_void-clause-ty c = ap (λ (b : Bool). cond b None (Some (tree c.args.types.now c.args.returns))) (sym c.if-is_void.true ∙ c.is_void.ensures)

pub returns-else-is_void-clause-ty : goal.returns-else-is_void-clause-ty
returns-else-is_void-clause-ty c = ap (λ (b : Bool). cond b None (Some (tree c.args.types.now c.args.returns))) (sym c.if-is_void.false ∙ c.is_void.ensures)
