use Rattle.std.proofs.Common.{All, map, ap, sym, ◌∙◌, subst}
use Rattle.linkage_rules.specs.Globals.{name_of}
use Rattle.linkage_rules.specs.Ids.{IsEntryId, modules, seen}
use Rattle.link_rules.specs.Rename.{all_names}
use Rattle.link_names.proofs.Avoided.{names_are, on_ok}
use Rattle.link_names.proofs.symbols.avoid_all.Goals as goal

pub avoid_names-requires : goal.avoid_names-requires
avoid_names-requires c = subst (All (IsEntryId c.args.parts.now)) (sym c.as_slice.ensures.value) c.in_ok-ids.ensures.ids.known

pub returns-clause-avoided : goal.returns-clause-avoided
returns-clause-avoided c =
    let ms = modules c.args.parts.now in
    on_ok c.avoid_names.result c.args.naming.now.avoided (map (λ id. name_of (seen ms id).global) c.as_slice.result.now) (all_names ms) c.avoid_names.new.naming.avoided
    (ap (map (λ id. name_of (seen ms id).global)) c.as_slice.ensures.value ∙ names_are c.args.parts.now c.in_ok-ids.ids.items c.in_ok-ids.ensures.ids) c.avoid_names.ensures.avoided
