use Rattle.std.proofs.Common.{◌≡◌, true, subst}
use Rattle.std.specs.Prelude.{is_some}
use Rattle.linkage_rules.specs.Ids.{modules}
use Rattle.linkage_rules.specs.Resolving.Meanings.{bound_view}
use Rattle.linkage_rules.proofs.OnResolving.Told.{definition_known}
use Rattle.module_table.proofs.meaning.add_bound.Goals as goal

pub name-requires : goal.name-requires
name-requires c =
    definition_known c.args.parts.now c.of-id.result _ _ c.of-id.ensures.part c.of-id.ensures.global (subst (λ b. is_some (bound_view (modules c.args.parts.now) b) ≡ true) c.in-Definition.is c.requires)
