use Rattle.std.proofs.Common.{◌<◌, ℕ, List, [], ◌∷◌, length, map, take, ◌∙◌, subst, arith}
use Rattle.module_arena.specs.declared.instruction.Case.{Case}
use Rattle.instruction_verify.proofs.OnUses.Edged.{Added, mapped_more, more_edges}
use Rattle.instruction_verify.proofs.uses.sources.add_cases.Goals as goal

pub cases-preserved : goal.cases-preserved
cases-preserved c =
    let from = c.args.from in
    let cs = c.args.cases.now in
    let i = c.cases.case-index in
    let x = c.case-item.result in
    let target = λ (x : Case). x.target in
    let lt : i < length cs = omega arith in (
      c.add_edge.ensures.len ∙ c.cases.invariant.0,
      subst (λ (ts : List ℕ). Added from ts c.args.sources.now c.add_edge.new.sources) (mapped_more target cs i x lt c.case-item.is)
          (more_edges from (map target (take i cs)) (target x ∷ []) c.args.sources.now c.cases.sources c.add_edge.new.sources c.cases.invariant.0 c.cases.invariant.1 c.in_ok-add_edge.ensures.edges),
    )
