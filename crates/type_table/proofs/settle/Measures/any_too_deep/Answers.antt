use Rattle.std.proofs.Common.{◌<◌, inl, inr, subst, sym, Any}
use Rattle.type_table.specs.declared.measure.Measure.{Measure}
use Rattle.type_table.proofs.Judged.{Any-left, Any-right, Any-append}
use Rattle.type_table.proofs.settle.Measures.any_too_deep.Goals as goal

pub returns-then-some_too_deep : goal.returns-then-some_too_deep
returns-then-some_too_deep c =
    let types = c.args.self.now.types.items in
    let structs = c.args.self.now.structs.items in (
      λ h. Any-left (λ (m : Measure). 64 < m.nesting) types structs (subst (Any (λ (m : Measure). 64 < m.nesting)) c.deref.ensures.value (c.some_too_deep.ensures.0 c.if-some_too_deep.true)),
      λ h. c.if-some_too_deep.true,
    )

pub returns-else-some_too_deep : goal.returns-else-some_too_deep
returns-else-some_too_deep c =
    let types = c.args.self.now.types.items in
    let structs = c.args.self.now.structs.items in (
      λ h. Any-right (λ (m : Measure). 64 < m.nesting) types structs (subst (Any (λ (m : Measure). 64 < m.nesting)) c.deref-else-some_too_deep.ensures.value (c.some_too_deep-else-some_too_deep.ensures.0 h)),
      λ some. elim (Any-append (λ (m : Measure). 64 < m.nesting) types structs some) [
        | inl a ↦ (let t = c.some_too_deep.ensures.1 (subst (Any (λ (m : Measure). 64 < m.nesting)) (sym c.deref.ensures.value) a) in cc)
        | inr b ↦ c.some_too_deep-else-some_too_deep.ensures.1 (subst (Any (λ (m : Measure). 64 < m.nesting)) (sym c.deref-else-some_too_deep.ensures.value) b)
      ],
    )
