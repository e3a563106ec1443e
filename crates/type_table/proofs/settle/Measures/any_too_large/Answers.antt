use Rattle.std.proofs.Common.{inl, inr, subst, sym, Any}
use Rattle.type_table.specs.Kept.{IsLarge}
use Rattle.type_table.proofs.Judged.{Any-left, Any-right, Any-append}
use Rattle.type_table.proofs.settle.Measures.any_too_large.Goals as goal

pub returns-then-some_too_large : goal.returns-then-some_too_large
returns-then-some_too_large c =
    let types = c.args.self.now.types.items in
    let structs = c.args.self.now.structs.items in (
      λ h. Any-left IsLarge types structs (subst (Any IsLarge) c.deref.ensures.value (c.some_too_large.ensures.0 c.if-some_too_large.true)),
      λ h. c.if-some_too_large.true,
    )

pub returns-else-some_too_large : goal.returns-else-some_too_large
returns-else-some_too_large c =
    let types = c.args.self.now.types.items in
    let structs = c.args.self.now.structs.items in (
      λ h. Any-right IsLarge types structs (subst (Any IsLarge) c.deref-else-some_too_large.ensures.value (c.some_too_large-else-some_too_large.ensures.0 h)),
      λ some. elim (Any-append IsLarge types structs some) [
        | inl a ↦ (let t = c.some_too_large.ensures.1 (subst (Any IsLarge) (sym c.deref.ensures.value) a) in cc)
        | inr b ↦ c.some_too_large-else-some_too_large.ensures.1 (subst (Any IsLarge) (sym c.deref-else-some_too_large.ensures.value) b)
      ],
    )
