use Rattle.std.proofs.Common.{refl, subst, ap, ◌∙◌, sym, is_some, Contains, true≢false}
use Rattle.type_table.specs.Types.{names}
use Rattle.type_table.proofs.table.TypeTable.struct_of.Goals as goal

pub returns-in_err-index-clause-present : goal.returns-in_err-index-clause-present
returns-in_err-index-clause-present c =
    let nothing = ap is_some c.from_residual.ensures in (
      λ s. absurd (true≢false (sym s ∙ nothing)),
      λ h. absurd (true≢false (sym (c.in_err-index.ensures.present.1 (subst (λ t. Contains (names t) c.args.name.now) (sym c.self.view_is) h)))),
    )

pub returns-clause-present : goal.returns-clause-present
returns-clause-present c =
    (λ s. subst (λ t. Contains (names t) c.args.name.now) c.self.view_is (c.in_ok-index.ensures.present.0 refl), λ h. refl)
